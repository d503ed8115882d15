-- What is found first in a list, and what is marked.
use Rattle.std.proofs.Common.{◌≡◌, ℕ, zero, suc, ◌+◌, ◌<◌, inl, inr, Bool, true, false, ◌==◌, List, [], ◌∷◌, ◌++◌, map, length, take, get_or, replicate, refl, sym, ◌∙◌, subst, arith, Option, Some, None}
use Rattle.std.specs.Prelude.{find, slice_set, slice_index}
use Rattle.std.specs.List.{list_any}
use Rattle.std.proofs.lemmas.Bool.Decides.{nat_tests}
use Rattle.std.proofs.lemmas.List.{take_more}
use Rattle.orbits.proofs.Lists.{same_tests}
use Rattle.plane_model.specs.Sets.{has, or_else}
use Rattle.islands.specs.Rounds.{is_marked}
use Rattle.islands.proofs.Opening.{last_has, has_last, set_on, set_stays, set_only, set_length}
use Rattle.islands.proofs.Members.{has_front}
use Rattle.islands.proofs.Start.{unmarked}

pub found_first : {X : Type 0} (p : X → Bool) (xs : List X) (d : X) (k : ℕ) → k < length xs → ((j : ℕ) → j < k → p (get_or xs j d) ≡ false) → p (get_or xs k d) ≡ true → find p xs ≡ Some (get_or xs k d)
found_first p [] d k h before here = absurd (omega arith)
found_first p (x ∷ xs) d zero h before here = rw here refl
found_first p (x ∷ xs) d (suc k) h before here = rw (before 0 (omega arith)) (found_first p xs d k (omega arith) (λ j lt. before (suc j) (omega arith)) here)

pub found_none : {X : Type 0} (p : X → Bool) (xs : List X) (d : X) → ((j : ℕ) → j < length xs → p (get_or xs j d) ≡ false) → find p xs ≡ None
found_none p [] d before = refl
found_none p (x ∷ xs) d before = rw (before 0 (omega arith)) (found_none p xs d (λ j lt. before (suc j) (omega arith)))

pub or_none : {X : Type 0} (o : Option X) → or_else o None ≡ o
or_none None = refl
or_none (Some x) = refl

flips : (x y : ℕ) → (x == y) ≡ (y == x)
flips x y = grind (arith, nat_tests)

pub any_of_map : (f : ℕ → ℕ) (xs : List ℕ) (x : ℕ) → has (map f xs) x ≡ list_any (λ s. f s == x) xs
any_of_map f [] x = refl
any_of_map f (y ∷ xs) x = rw (flips x (f y), any_of_map f xs x) refl

-- the marks of some numbers
pub record AreMarksOf (numbers : List ℕ) (count : ℕ) (marks : List Bool) : Type 0 where
  pub size : length marks ≡ count
  pub marked : (x : ℕ) → is_marked marks x ≡ has numbers x

pub no_marks : (count : ℕ) (marks : List Bool) → marks ≡ replicate count false → length marks ≡ count → AreMarksOf [] count marks
no_marks count marks e size = record { size = size; marked = λ x. unmarked marks count e x }

pub one_mark_more : (numbers : List ℕ) (k count : ℕ) (marks : List Bool) → k < length numbers → AreMarksOf (take k numbers) count marks → slice_index numbers k < count → AreMarksOf (take (k + 1) numbers) count (slice_set marks (slice_index numbers k) true)
one_mark_more numbers k count marks h before below =
    let n : ℕ = slice_index numbers k in
    let fits : n < length marks = (let s = before.size in omega arith) in
    rw (take_more numbers k 0 h) (record {
      size = set_length marks n ∙ before.size;
      marked = λ x. same_tests (is_marked (slice_set marks n true) x) (has (take k numbers ++ n ∷ []) x)
          (λ on. elim (set_only marks n x on) [
            | inl was ↦ has_front (take k numbers) (n ∷ []) x (sym (before.marked x) ∙ was)
            | inr is ↦ subst (λ z. has (take k numbers ++ n ∷ []) z ≡ true) (sym is) (has_last (take k numbers) n)
          ])
          (λ on. elim (last_has (take k numbers) n x on) [
            | inl was ↦ set_stays marks n x (before.marked x ∙ was)
            | inr is ↦ subst (λ z. is_marked (slice_set marks n true) z ≡ true) (sym is) (set_on marks n fits)
          ]);
    })
