-- Steps up from places are steps up from their ids.
use Rattle.std.specs.Prelude.{find, option_map, option_and_then, unwrap_or, slice_index, slice_get, IfSome}
use Rattle.std.proofs.Common.{◌≡◌, ◌≢◌, ℕ, zero, suc, ◌+◌, ◌-◌, ◌<◌, ◌≤◌, inl, inr, Bool, true, false, ◌==◌, List, [], ◌∷◌, map, length, get_or, refl, ap, sym, ◌∙◌, subst, arith, Option, Some, None, eq-eqb}
use Rattle.std.specs.List.{range_with_len}
use Rattle.std.proofs.lemmas.Bool.{cases_Bool, cases_lt, both_ways, or_cases, or_left, or_right, eqb-true, false_from_ne_true}
use Rattle.std.proofs.lemmas.List.{get_or_past}
use Rattle.std.proofs.lemmas.List.FromFn.{fill_by_all}
use Rattle.std.proofs.lemmas.Option.{slice_get-get_or}
use Rattle.orbits.proofs.Lists.{same_tests, distinct_one}
use Rattle.orbits.proofs.Numbers.{same_numbers, in_range}
use Rattle.topo_base.specs.declared.refusal.Refusal.{Refusal}
use Rattle.topo_base.specs.declared.refusal.Refusal.TheVariants as refusal
use Rattle.plane_model.specs.Sets.{has, is_distinct}
use Rattle.plane_model.specs.PlaneMap.{PlaneMap}
use Rattle.plane_model.specs.Regions.{parent, upward, parents}
use Rattle.plane_model.specs.Faults.{region_cycle}
use Rattle.region_tree.specs.Ancestors.{parent_at, AreParentNumbers, ancestor, comes_back}
use Rattle.region_tree.specs.ByPlace.{AreByPlace}
use Rattle.region_tree.proofs.Steps.{ancestor-none, ancestor-zero, ancestor-suc, ancestor-within}
use Rattle.region_tree.proofs.OnCycles.{back-steps, steps-back}

-- two places of distinct numbers that have the same are one
pub apart_places : (xs : List ℕ) → is_distinct xs ≡ true → (j k : ℕ) → j < length xs → k < length xs → slice_index xs j ≡ slice_index xs k → j ≡ k
apart_places xs apart j k lj lk e =
    let whole : xs ≡ map (slice_index xs) (range_with_len 0 (length xs)) = fill_by_all (slice_index xs) xs (length xs) 0 refl (λ i l. refl) in
    distinct_one same_numbers (slice_index xs) (range_with_len 0 (length xs)) (subst (λ ys. is_distinct ys ≡ true) whole apart) j k (in_range 0 (length xs) j (omega arith) (omega arith)) (in_range 0 (length xs) k (omega arith) (omega arith)) e

-- ---- the chain of a region by steps up
pub upward-steps : (m : PlaneMap) (n : ℕ) (o : Option ℕ) (x : ℕ) → has (upward n m o) x ≡ true → (j : ℕ) × (j < n) × (ancestor (parent m) j o ≡ Some x)
unfolding upward ancestor
upward-steps m zero o x h = absurd (both_ways false refl h)
upward-steps m (suc n) None x h = absurd (both_ways false refl h)
upward-steps m (suc n) (Some r) x h = elim (or_cases (x == r) (has (upward n m (parent m r)) x) h) [
  | inl is ↦ (0, omega arith, ap Some (sym (eqb-true x r is)))
  | inr more ↦ let s = upward-steps m n (parent m r) x more in (suc s.0, omega (arith, s.1), s.2)
]

pub steps-upward : (m : PlaneMap) (n : ℕ) (o : Option ℕ) (x j : ℕ) → j < n → ancestor (parent m) j o ≡ Some x → has (upward n m o) x ≡ true
unfolding upward ancestor
steps-upward m zero o x j l h = absurd (omega arith)
steps-upward m (suc n) None x j l h = let none = ancestor-none (parent m) j in absurd (cc)
steps-upward m (suc n) (Some r) x zero l h = or_left _ _ (let e : r ≡ x = cc in eq-eqb x r (sym e))
steps-upward m (suc n) (Some r) x (suc j) l h = or_right (x == r) _ (steps-upward m n (parent m r) x j (omega arith) h)

module _ (m : PlaneMap) (ids : List ℕ) (parents_of : List (Option ℕ)) (are : AreByPlace m ids parents_of) where
  abbrev n : ℕ
  n = length parents_of

  abbrev up : ℕ → Option ℕ
  up = parent_at parents_of

  -- steps up from an id are those from its place
  pub ancestor-place : (j k : ℕ) → k < n → ancestor (parent m) j (Some (slice_index ids k)) ≡ option_map (slice_index ids) (ancestor up j (Some k))
  ancestor-place zero k l = ancestor-zero (parent m) (Some (slice_index ids k)) ∙ ap (option_map (slice_index ids)) (sym (ancestor-zero up (Some k)))
  ancestor-place (suc j) k l =
      let many = are.many in
      ancestor-suc (parent m) j (slice_index ids k) ∙ ap (ancestor (parent m) j) (are.parent_is k (omega arith)) ∙ place_next j (λ q lq. ancestor-place j q lq) k (up k) refl ∙ ap (option_map (slice_index ids)) (sym (ancestor-suc up j k))
    where
      place_next : (j : ℕ) → ((q : ℕ) → q < n → ancestor (parent m) j (Some (slice_index ids q)) ≡ option_map (slice_index ids) (ancestor up j (Some q))) → (k : ℕ) (o : Option ℕ) → up k ≡ o
          → ancestor (parent m) j (option_map (slice_index ids) o) ≡ option_map (slice_index ids) (ancestor up j o)
      place_next j more k None e = ancestor-none (parent m) j ∙ ap (option_map (slice_index ids)) (sym (ancestor-none up j))
      place_next j more k (Some q) e = more q (are.places k q e)

  same_place : (o : Option ℕ) (k : ℕ) → k < n → IfSome o (λ p. p < n) → option_map (slice_index ids) o ≡ Some (slice_index ids k) → o ≡ Some k
  same_place None k l w h = cc
  same_place (Some p) k l w h =
      let many = are.many in
      let e : slice_index ids p ≡ slice_index ids k = cc in
      ap Some (apart_places ids are.apart p k (omega (arith, w)) (omega arith) e)

  within_steps : (j k : ℕ) → k < n → (o : Option ℕ) → ancestor up j (Some k) ≡ o → IfSome o (λ p. p < n)
  within_steps j k l None e = tt
  within_steps j k l (Some p) e = ancestor-within parents_of are.places j k p l e

  pub keys_many : length m.regions.keys ≡ n
  keys_many = ap length (sym are.ids_are) ∙ sym are.many

  -- a region is in its own chain of parents exactly where its place comes back
  pub on_cycle-place : (k : ℕ) → k < n → has (parents m (slice_index ids k)) (slice_index ids k) ≡ comes_back up n k
  on_cycle-place k l =
      let x = slice_index ids k in
      let many = keys_many in
      same_tests _ _
      (λ h. let s = upward-steps m (length m.regions.keys) (parent m x) x h in
      let from : ancestor (parent m) (suc s.0) (Some x) ≡ Some x = ancestor-suc (parent m) s.0 x ∙ s.2 in
      let o = ancestor up (suc s.0) (Some k) in
      steps-back up n k (suc s.0) (omega arith) (omega (arith, s.1)) (same_place o k l (within_steps (suc s.0) k l o refl) (sym (ancestor-place (suc s.0) k l) ∙ from)))
      (λ h. let b = back-steps up n k h in
      let d = b.0 - 1 in
      let e : suc d ≡ b.0 = omega (arith, b.1) in
      let from : ancestor (parent m) (suc d) (Some x) ≡ Some x = ancestor-place (suc d) k l ∙ ap (option_map (slice_index ids)) (ap (λ q. ancestor up q (Some k)) e ∙ b.3) in
      steps-upward m (length m.regions.keys) (parent m x) x d (omega (arith, b.2)) (sym (ancestor-suc (parent m) d x) ∙ from))

  find-places : (t : ℕ → Bool) (f : ℕ → ℕ) (xs : List ℕ) → find t (map f xs) ≡ option_map f (find (λ k. t (f k)) xs)
  find-places t f [] = refl
  find-places t f (x ∷ xs) = elim (cases_Bool (t (f x))) [ inl e ↦ rw e refl | inr e ↦ rw e (find-places t f xs) ]

  find-range : (t s : ℕ → Bool) (low many : ℕ) → ((k : ℕ) → low ≤ k → k < low + many → t k ≡ s k) → find t (range_with_len low many) ≡ find s (range_with_len low many)
  find-range t s low zero same = refl
  find-range t s low (suc many) same =
      let here = same low (omega arith) (omega arith) in
      let more = find-range t s (low + 1) many (λ k a b. same k (omega arith) (omega arith)) in
      elim (cases_Bool (s low)) [ inl e ↦ rw (here, e) refl | inr e ↦ rw (here, e) more ]

  pub ids-by_place : ids ≡ map (slice_index ids) (range_with_len 0 n)
  ids-by_place = fill_by_all (slice_index ids) ids n 0 (sym are.many) (λ k l. refl)

  -- the least region on a cycle is that of the least place that comes back
  pub cycle-place : region_cycle m ≡ option_map (λ k. refusal.RegionCycle (slice_index ids k)) (find (comes_back up n) (range_with_len 0 n))
  cycle-place =
      let t = λ (r : ℕ). has (parents m r) r in
      ap (λ xs. option_map refusal.RegionCycle (find t xs)) (sym are.ids_are ∙ ids-by_place)
      ∙ ap (option_map refusal.RegionCycle) (find-places t (slice_index ids) (range_with_len 0 n) ∙ ap (option_map (slice_index ids)) (find-range (λ k. t (slice_index ids k)) (comes_back up n) 0 n (λ k a b. on_cycle-place k (omega arith))))
      ∙ twice (find (comes_back up n) (range_with_len 0 n))
    where
      twice : (o : Option ℕ) → option_map refusal.RegionCycle (option_map (slice_index ids) o) ≡ option_map (λ k. refusal.RegionCycle (slice_index ids k)) o
      twice None = refl
      twice (Some k) = refl
