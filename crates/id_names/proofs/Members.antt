-- The members of a cycle by their places in it.
use Rattle.std.proofs.Common.{◌≡◌, ℕ, zero, suc, ◌+◌, ◌<◌, ◌≤◌, inl, inr, true, false, ◌==◌, List, [], ◌∷◌, length, get_or, refl, sym, ap, subst, arith}
use Rattle.std.specs.Prelude.{IsTrue, not}
use Rattle.std.specs.List.{range_with_len}
use Rattle.std.proofs.lemmas.Bool.{and_parts, both_ways, cases_Bool, eqb-true, not-true, or_cases}
use Rattle.std.proofs.lemmas.List.FromFn.{length-range_with_len}
use Rattle.orbits.specs.Points.{has, is_distinct}
use Rattle.orbits.specs.Walks.{until_return, returns, Permutes}
use Rattle.orbits.proofs.Orbits.{orbit_returns, orbit_inside, orbit_apart}
use Rattle.orbits.proofs.Numbers.{same_numbers, in_range, from_range, has_place}
use Rattle.id_names.specs.Cycles.{IsPlacePermutation, cycle}

-- numbers that follow one another by a step, from one on until the step comes to another
record Walks (step : ℕ → ℕ) (from to most : ℕ) (xs : List ℕ) : Type 0 where
  some : 0 < length xs
  few : length xs ≤ most
  begins : get_or xs 0 0 ≡ from
  follows : (i : ℕ) → i + 1 < length xs → step (get_or xs i 0) ≡ get_or xs (i + 1) 0
  ends : (i : ℕ) → i + 1 ≡ length xs → step (get_or xs i 0) ≡ to

walk_listed : (n : ℕ) (step : ℕ → ℕ) (first d : ℕ) → returns (λ x y. x == y) n step first d ≡ true → Walks step d first n (until_return (λ x y. x == y) n step first d)
unfolding until_return
walk_listed zero step first d h = absurd (both_ways false refl h)
walk_listed (suc n) step first d h = elim (cases_Bool (step d == first)) [
  | inl back ↦ rw back record {
    some = omega arith;
    few = omega arith;
    begins = refl;
    follows = λ i l. absurd (omega arith);
    ends = λ i l. (let z : i ≡ 0 = omega arith in rw z (eqb-true (step d) first back));
  }
  | inr on ↦
      let later : returns (λ x y. x == y) n step first (step d) ≡ true = elim (or_cases (step d == first) _ h) [ inl back ↦ absurd (both_ways _ on back) | inr more ↦ more ] in
      let w = walk_listed n step first (step d) later in
      let xs = until_return (λ x y. x == y) n step first (step d) in
      rw on record {
        some = omega arith;
        few = omega (arith, w.few);
        begins = refl;
        follows = follows' n step first d xs w;
        ends = ends' n step first d xs w;
      }
]
  where
    follows' : (n : ℕ) (step : ℕ → ℕ) (first d : ℕ) (xs : List ℕ) → Walks step (step d) first n xs → (i : ℕ) → i + 1 < length (d ∷ xs) → step (get_or (d ∷ xs) i 0) ≡ get_or (d ∷ xs) (i + 1) 0
    follows' n step first d xs w zero l = sym w.begins
    follows' n step first d xs w (suc i) l =
        let e : suc i + 1 ≡ suc (i + 1) = omega arith in
        subst (λ z. step (get_or xs i 0) ≡ get_or (d ∷ xs) z 0) (sym e) (w.follows i (omega arith))

    ends' : (n : ℕ) (step : ℕ → ℕ) (first d : ℕ) (xs : List ℕ) → Walks step (step d) first n xs → (i : ℕ) → i + 1 ≡ length (d ∷ xs) → step (get_or (d ∷ xs) i 0) ≡ first
    ends' n step first d xs w zero l = absurd (omega (arith, w.some))
    ends' n step first d xs w (suc i) l = w.ends i (omega arith)

-- numbers of a list that has none twice
places_apart : (xs : List ℕ) → is_distinct (λ (x y : ℕ). x == y) xs ≡ true → (i j : ℕ) → i < length xs → j < length xs → get_or xs i 0 ≡ get_or xs j 0 → i ≡ j
places_apart [] h i j l m e = absurd (omega arith)
places_apart (x ∷ xs) h zero zero l m e = refl
places_apart (x ∷ xs) h zero (suc j) l m e =
    let parts = and_parts (not (has (λ (x y : ℕ). x == y) xs x)) (is_distinct (λ (x y : ℕ). x == y) xs) h in
    absurd (both_ways _ (not-true _ parts.0) (subst (λ z. has (λ (x y : ℕ). x == y) xs z ≡ true) (sym e) (has_place xs j (omega arith))))
places_apart (x ∷ xs) h (suc i) zero l m e =
    let parts = and_parts (not (has (λ (x y : ℕ). x == y) xs x)) (is_distinct (λ (x y : ℕ). x == y) xs) h in
    absurd (both_ways _ (not-true _ parts.0) (subst (λ z. has (λ (x y : ℕ). x == y) xs z ≡ true) e (has_place xs i (omega arith))))
places_apart (x ∷ xs) h (suc i) (suc j) l m e =
    let parts = and_parts (not (has (λ (x y : ℕ). x == y) xs x)) (is_distinct (λ (x y : ℕ). x == y) xs) h in
    ap suc (places_apart xs parts.1 i j (omega arith) (omega arith) e)

-- the members of a cycle, which follow one another by the places and come back
pub record AreMembers (places : List ℕ) (first : ℕ) (members : List ℕ) : Type 0 where
  pub some : 0 < length members
  pub few : length members ≤ length places
  pub begins : get_or members 0 0 ≡ first
  pub within : (i : ℕ) → i < length members → get_or members i 0 < length places
  pub follows : (i : ℕ) → i + 1 < length members → get_or places (get_or members i 0) 0 ≡ get_or members (i + 1) 0
  pub ends : (i : ℕ) → i + 1 ≡ length members → get_or places (get_or members i 0) 0 ≡ first
  pub once : (i j : ℕ) → i < length members → j < length members → get_or members i 0 ≡ get_or members j 0 → i ≡ j

module _ (places : List ℕ) (are : IsPlacePermutation places) where
  pub permutes : Permutes (λ x. IsTrue (has (λ (x y : ℕ). x == y) (range_with_len 0 (length places)) x)) (λ k. get_or places k 0)
  permutes = record {
    stays = λ x h. (let r = from_range 0 (length places) x h in in_range 0 (length places) (get_or places x 0) (omega arith) (let b = are.below x (omega (arith, r.1)) in omega arith));
    one = λ x y h k e. (let r = from_range 0 (length places) x h in let q = from_range 0 (length places) y k in are.one x y (omega (arith, r.1)) (omega (arith, q.1)) e);
  }

  pub number_there : (k : ℕ) → k < length places → has (λ (x y : ℕ). x == y) (range_with_len 0 (length places)) k ≡ true
  number_there k h = in_range 0 (length places) k (omega arith) (omega arith)

  pub members_of : (first : ℕ) → first < length places → AreMembers places first (cycle places first)
  members_of first h =
      let there = number_there first h in
      let us = range_with_len 0 (length places) in
      let w = walk_listed (length us) (λ k. get_or places k 0) first first (orbit_returns same_numbers us (λ k. get_or places k 0) permutes first there) in
      record {
        some = w.some;
        few = omega (arith, w.few, length-range_with_len 0 (length places));
        begins = w.begins;
        within = λ i l. (let r = from_range 0 (length places) (get_or (cycle places first) i 0) (orbit_inside same_numbers us (λ k. get_or places k 0) permutes first (get_or (cycle places first) i 0) there (has_place (cycle places first) i l)) in omega (arith, r.1));
        follows = w.follows;
        ends = w.ends;
        once = places_apart (cycle places first) (orbit_apart same_numbers us (λ k. get_or places k 0) permutes first there);
      }
