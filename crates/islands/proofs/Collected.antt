-- What was collected and sorted are the rings of the round.
use Rattle.std.proofs.Common.{◌≡◌, ℕ, zero, suc, ◌<◌, inl, inr, Bool, true, false, ◌==◌, List, [], ◌∷◌, length, refl, sym, subst, arith, eq-eqb}
use Rattle.std.specs.Prelude.{slice_index, slice_index_or, flat_map}
use Rattle.std.specs.List.{filter, Contains, AllPairs}
use Rattle.std.specs.List.Sorted.{IsStrictlyIncreasing}
use Rattle.std.proofs.lemmas.Bool.{eqb-true, or_cases, or_left, or_right, both_ways, not-true}
use Rattle.std.proofs.lemmas.List.Kept.{AllPairs-from_increasing}
use Rattle.orbits.proofs.Lists.{in_filter, from_filter}
use Rattle.orbits.proofs.Numbers.{same_numbers}
use Rattle.plane_model.specs.Sets.{has}
use Rattle.islands.specs.Lists.{AreLists}
use Rattle.islands.specs.Rounds.{AreIncreasing, AreRoundRings, is_fresh, fresh_on}
use Rattle.islands.proofs.Members.{has_front, has_back, has_either}

has_at : (xs : List ℕ) (k x : ℕ) → k < length xs → slice_index_or xs k x ≡ x → has xs x ≡ true
has_at [] k x lt e = absurd (omega arith)
has_at (y ∷ xs) zero x lt e = or_left (x == y) _ (eq-eqb x y (sym e))
has_at (y ∷ xs) (suc k) x lt e = or_right (x == y) _ (has_at xs k x (omega arith) e)

pub has_from_Contains : (xs : List ℕ) (x : ℕ) → Contains xs x → has xs x ≡ true
has_from_Contains xs x c = has_at xs c.0 x c.1 c.2

pub Contains_from_has : (xs : List ℕ) (x : ℕ) → has xs x ≡ true → Contains xs x
Contains_from_has [] x h = absurd (both_ways false refl h)
Contains_from_has (y ∷ xs) x h = elim (or_cases (x == y) (has xs x) h) [
  | inl is ↦ (zero, omega arith, sym (eqb-true x y is))
  | inr more ↦ let k = Contains_from_has xs x more in let lt : k.0 < length xs = k.1 in (suc k.0, omega arith, k.2)
]

pub has_index : (xs : List ℕ) (k : ℕ) → k < length xs → has xs (slice_index xs k) ≡ true
has_index [] k h = absurd (omega arith)
has_index (x ∷ xs) zero h = or_left (x == x) _ (eq-eqb x x refl)
has_index (x ∷ xs) (suc k) h = or_right (slice_index xs k == x) _ (has_index xs k (omega arith))

increases_from : (xs : List ℕ) → AllPairs (λ x y. x < y) xs → AreIncreasing xs
increases_from [] p = tt
increases_from (x ∷ xs) p = (
  λ y on. let k = Contains_from_has xs y on in let lt : k.0 < length xs = k.1 in subst (λ z. x < z) k.2 (p 0 (suc k.0) y (omega arith) (omega arith)),
  increases_from xs (λ i j d lt below. p (suc i) (suc j) d (omega arith) (omega arith)),
)

pub has_filter : (p : ℕ → Bool) (xs : List ℕ) (x : ℕ) → has xs x ≡ true → p x ≡ true → has (filter p xs) x ≡ true
has_filter p xs x h k = in_filter same_numbers p xs x k h

in_flat : (g : ℕ → List ℕ) (fs : List ℕ) (f x : ℕ) → has fs f ≡ true → has (g f) x ≡ true → has (flat_map g fs) x ≡ true
in_flat g [] f x h k = cc
in_flat g (y ∷ fs) f x h k = elim (or_cases (f == y) (has fs f) h) [
  | inl is ↦ has_front (g y) (flat_map g fs) x (subst (λ z. has (g z) x ≡ true) (eqb-true f y is) k)
  | inr more ↦ has_back (g y) (flat_map g fs) x (in_flat g fs f x more k)
]

from_flat : (g : ℕ → List ℕ) (fs : List ℕ) (x : ℕ) → has (flat_map g fs) x ≡ true → (f : ℕ) × (has fs f ≡ true) × (has (g f) x ≡ true)
from_flat g [] x h = absurd (both_ways false refl h)
from_flat g (y ∷ fs) x h = elim (has_either (g y) (flat_map g fs) x h) [
  | inl a ↦ (y, or_left _ _ (eq-eqb y y refl), a)
  | inr b ↦ let r = from_flat g fs x b in (r.0, or_right (r.0 == y) _ r.1, r.2)
]

pub round_of : (faces components front : List ℕ) (reached : List Bool) (on_face : ℕ → List ℕ) (found now : List ℕ) → found ≡ fresh_on components reached on_face front → IsStrictlyIncreasing now
    → ((i : ℕ) → Contains found i → Contains now i) → ((i : ℕ) → Contains now i → Contains found i) → AreLists faces on_face → AreRoundRings faces components front reached now
round_of faces components front reached on_face found now e up all only by_face =
    let fresh : ℕ → Bool = is_fresh components reached in
    let g : ℕ → List ℕ = λ f. filter fresh (on_face f) in
    record {
      increases = increases_from now (AllPairs-from_increasing now up);
      sound = λ i on.
          let in_found : has (flat_map g front) i ≡ true = subst (λ xs. has xs i ≡ true) e (has_from_Contains found i (only i (Contains_from_has now i on))) in
          let f = from_flat g front i in_found in
          let it = from_filter same_numbers fresh (on_face f.0) i f.2 in
          let key = by_face.sound f.0 i it.1 in
          (key.0, subst (λ z. has front z ≡ true) (sym key.1) f.1, not-true (slice_index_or reached (slice_index components i) false) it.0);
      complete = λ i below on unreached.
          let in_list = by_face.complete i below in
          let passes : fresh i ≡ true = rw unreached refl in
          let in_found = in_flat g front (slice_index faces i) i on (has_filter fresh (on_face (slice_index faces i)) i in_list passes) in
          has_from_Contains now i (all i (Contains_from_has found i (subst (λ xs. has xs i ≡ true) (sym e) in_found)));
    }
