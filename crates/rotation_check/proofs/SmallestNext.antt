-- The smallest signed edge that is the next of two, as the darts are gone through.
use Rattle.std.proofs.Common.{◌≡◌, ℕ, ◌+◌, ◌*◌, ◌<◌, inl, inr, ℤ, Bool, true, false, not, List, [], ◌∷◌, filter, length, get_or, refl, sym, ap, ◌∙◌, subst, arith, Option, Some, None, of_z, to_z}
use Rattle.std.specs.Prelude.{nat_lt, find, option_map, if◌then◌else◌}
use Rattle.std.specs.Option.{option_map_or}
use Rattle.std.specs.List.{list_all}
use Rattle.std.proofs.lemmas.Bool.{and_from, cases_Bool, cases_eq, both_ways, or_left, or_right}
use Rattle.topo_base.specs.SignedEdge.{is_signed_edge, same_edge, comes_before}
use Rattle.topo_base.specs.declared.refusal.Refusal.TheVariants as refusal
use Rattle.plane_model.specs.Rows.{Rows}
use Rattle.plane_model.specs.Sets.{has_edge}
use Rattle.plane_model.specs.PlaneMap.{map_of, signed_edges, next, smaller}
use Rattle.plane_model.specs.Faults.{next_twice}
use Rattle.plane_model.proofs.SetLaws.{same_self}
use Rattle.plane_model.proofs.Sorting.{none_found}
use Rattle.plane_model.proofs.SortedEdges.{before_rank, not_before, not_before_from, smallest_found}
use Rattle.plane_model.proofs.RotationFaults.{signed_rows_rise}
use Rattle.rotation_check.specs.Darts.{AreDarts, signed_edge}
use Rattle.rotation_check.specs.Counts.{AreCountsOfEach}
use Rattle.rotation_check.proofs.DartLists.{dart_place, signed_there}
use Rattle.rotation_check.proofs.Leaving.{befores-count}
use Rattle.rotation_check.proofs.Ranges.{signed_width}
use Rattle.rotation_check.proofs.EndLemmas.{value_is}

-- d is the smallest that passes of the first k
pub record IsSmallestOf (p : ℤ → Bool) (signed : ℕ → ℤ) (k : ℕ) (d : ℤ) : Type 0 where
  pub there : (j : ℕ) × (j < k) × (signed j ≡ d)
  pub passes : p d ≡ true
  pub least : (j : ℕ) → j < k → p (signed j) ≡ true → comes_before (signed j) d ≡ false

-- the smallest of those so far, or none
abbrev pub SmallestTo : (ℤ → Bool) → (ℕ → ℤ) → ℕ → Option ℤ → Type 0
SmallestTo p signed k None = (j : ℕ) → j < k → p (signed j) ≡ false
SmallestTo p signed k (Some d) = IsSmallestOf p signed k d

pub smallest_first : (p : ℤ → Bool) (signed : ℕ → ℤ) → SmallestTo p signed 0 None
smallest_first p signed j h = absurd (omega arith)

pub further : (P : ℕ → Type 0) (k : ℕ) → ((j : ℕ) → j < k → P j) → P k → (j : ℕ) → j < k + 1 → P j
further P k old here j h = elim (cases_eq j k) [ inl e ↦ subst P (sym e) here | inr ne ↦ old j (omega arith) ]

pub smallest_skip : (p : ℤ → Bool) (signed : ℕ → ℤ) (k : ℕ) (smallest : Option ℤ) → p (signed k) ≡ false → SmallestTo p signed k smallest → SmallestTo p signed (k + 1) smallest
smallest_skip p signed k None h old = further (λ j. p (signed j) ≡ false) k old h
smallest_skip p signed k (Some d) h old =
    record {
      there = (old.there.0, (let lt = old.there.1 in omega arith), old.there.2);
      passes = old.passes;
      least = further (λ j. p (signed j) ≡ true → comes_before (signed j) d ≡ false) k old.least (λ q. absurd (both_ways _ h q));
    }

smaller_cases : (d e : ℤ) (b : Bool) → comes_before e d ≡ b → smaller d e ≡ (if b then e else d)
smaller_cases d e b h = rw h refl

before_itself : (d : ℤ) → comes_before d d ≡ false
before_itself d = not_before_from d d (omega arith)

pub smallest_next : (p : ℤ → Bool) (signed : ℕ → ℤ) (k : ℕ) (smallest : Option ℤ) → p (signed k) ≡ true → SmallestTo p signed k smallest → SmallestTo p signed (k + 1) (Some (option_map_or (λ d. smaller d (signed k)) smallest (signed k)))
smallest_next p signed k None h old =
    record {
      there = (k, omega arith, refl);
      passes = h;
      least = further (λ j. p (signed j) ≡ true → comes_before (signed j) (signed k) ≡ false) k (λ j q e. absurd (both_ways _ (old j q) e)) (λ q. before_itself (signed k));
    }
smallest_next p signed k (Some d) h old = elim (cases_Bool (comes_before (signed k) d)) [
  | inl e ↦ subst (IsSmallestOf p signed (k + 1)) (sym (smaller_cases d (signed k) true e)) (record {
    there = (k, omega arith, refl);
    passes = h;
    least = further (λ j. p (signed j) ≡ true → comes_before (signed j) (signed k) ≡ false) k (λ j q f.
        let a = not_before (signed j) d (old.least j q f) in
        let b = before_rank (signed k) d e in
        not_before_from (signed j) (signed k) (omega arith)) (λ q. before_itself (signed k));
  })
  | inr e ↦ subst (IsSmallestOf p signed (k + 1)) (sym (smaller_cases d (signed k) false e)) (record {
    there = (old.there.0, (let lt = old.there.1 in omega arith), old.there.2);
    passes = old.passes;
    least = further (λ j. p (signed j) ≡ true → comes_before (signed j) d ≡ false) k old.least (λ q. e);
  })
]

pub all_by : (s : ℤ → Bool) (ds : List ℤ) → ((d : ℤ) → has_edge ds d ≡ true → s d ≡ true) → list_all s ds ≡ true
all_by s [] h = refl
all_by s (d ∷ ds) h = and_from (s d) (list_all s ds) (h d (or_left _ _ (same_self d))) (all_by s ds (λ e k. h e (or_right _ _ k)))

pub not_of : (b : Bool) → b ≡ false → not b ≡ true
not_of b h = rw h refl

-- what is found among the signed edges of all darts
pub smallest_of_all : (t : Rows) (nexts rows : List ℕ) → AreDarts t nexts rows → (p : ℤ → Bool) (smallest : Option ℤ) → SmallestTo p (signed_edge t.edges) (2 * length t.edges) smallest → find p (signed_edges (map_of t)) ≡ smallest
smallest_of_all t nexts rows darts p None all = none_found p (signed_edges (map_of t)) (all_by (λ d. not (p d)) (signed_edges (map_of t)) (λ d there.
    let k = dart_place t d there in
    not_of (p d) (subst (λ z. p z ≡ false) k.2 (all k.0 k.1))))
smallest_of_all t nexts rows darts p (Some d) all = smallest_found p (signed_edges (map_of t)) (signed_rows_rise t darts.in_range darts.edge_ids) d (record {
  there = subst (λ z. has_edge (signed_edges (map_of t)) z ≡ true) all.there.2 (signed_there t all.there.0 all.there.1);
  passes = all.passes;
  least = λ e there passes.
      let k = dart_place t e there in
      subst (λ z. comes_before z d ≡ false) k.2 (all.least k.0 k.1 (subst (λ z. p z ≡ true) (sym k.2) passes));
})

-- whether a signed edge is the next of two
abbrev pub is_next_of_two : Rows → ℤ → Bool
is_next_of_two t e = nat_lt 1 (length (filter (λ d. same_edge (next (map_of t) d) e) (signed_edges (map_of t))))

pub twice_at : (t : Rows) (nexts rows befores : List ℕ) → AreDarts t nexts rows → AreCountsOfEach nexts (2 * length t.edges) befores → (k : ℕ) → k < 2 * length t.edges → is_next_of_two t (signed_edge t.edges k) ≡ nat_lt 1 (get_or befores k 0)
twice_at t nexts rows befores darts counts k h = ap (nat_lt 1) (befores-count t nexts rows darts k h ∙ sym (counts.count k h))

pub next_twice_is : (t : Rows) (nexts rows : List ℕ) → AreDarts t nexts rows → (smallest : Option ℤ) → SmallestTo (is_next_of_two t) (signed_edge t.edges) (2 * length t.edges) smallest → next_twice (map_of t) ≡ option_map refusal.NextTwice smallest
next_twice_is t nexts rows darts smallest all = ap (option_map refusal.NextTwice) (smallest_of_all t nexts rows darts (is_next_of_two t) smallest all)

-- one dart further, as the loop goes
pub smallest_step : (p : ℤ → Bool) (signed : ℕ → ℤ) (k : ℕ) (old new : Option ℤ) (given r : ℤ) → p (signed k) ≡ true → given ≡ signed k → r ≡ option_map_or (λ d. smaller d given) old given → new ≡ Some r
    → SmallestTo p signed k old → SmallestTo p signed (k + 1) new
smallest_step p signed k old new given r h is r_is new_is so_far =
    let same : r ≡ option_map_or (λ d. smaller d (signed k)) old (signed k) = r_is ∙ ap (λ g. option_map_or (λ d. smaller d g) old g) is in
    subst (SmallestTo p signed (k + 1)) (sym (new_is ∙ ap Some same)) (smallest_next p signed k old h so_far)

pub smallest_kept : (p : ℤ → Bool) (signed : ℕ → ℤ) (k : ℕ) (old new : Option ℤ) → p (signed k) ≡ false → new ≡ old → SmallestTo p signed k old → SmallestTo p signed (k + 1) new
smallest_kept p signed k old new h is so_far = subst (SmallestTo p signed (k + 1)) (sym is) (smallest_skip p signed k old h so_far)

-- what the loop ends with
pub twice_none : (t : Rows) (nexts rows : List ℕ) → AreDarts t nexts rows → (k : ℕ) (smallest : Option ℤ) → k ≡ 2 * length t.edges → smallest ≡ None → SmallestTo (is_next_of_two t) (signed_edge t.edges) k smallest → next_twice (map_of t) ≡ None
twice_none t nexts rows darts k smallest whole is all =
    next_twice_is t nexts rows darts smallest (subst (λ n. SmallestTo (is_next_of_two t) (signed_edge t.edges) n smallest) whole all) ∙ ap (option_map refusal.NextTwice) is

pub twice_some : (t : Rows) (nexts rows : List ℕ) → AreDarts t nexts rows → (k : ℕ) (smallest : Option ℤ) (d v : ℤ) → k ≡ 2 * length t.edges → smallest ≡ Some d → v ≡ d → is_signed_edge d ≡ true
    → SmallestTo (is_next_of_two t) (signed_edge t.edges) k smallest → next_twice (map_of t) ≡ Some (refusal.NextTwice (to_z signed_width (of_z signed_width v)))
twice_some t nexts rows darts k smallest d v whole is value signed all =
    next_twice_is t nexts rows darts smallest (subst (λ n. SmallestTo (is_next_of_two t) (signed_edge t.edges) n smallest) whole all) ∙ ap (option_map refusal.NextTwice) is
    ∙ ap (λ z. Some (refusal.NextTwice z)) (sym (value_is v d d value signed refl))
