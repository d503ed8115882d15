-- A sweep over numbers that visits and marks the cycle of each that has not been visited.
use Rattle.std.proofs.Common.{◌≡◌, ℕ, ◌+◌, ◌<◌, ◌≤◌, inl, inr, Bool, true, false, ◌==◌, ◌⊎◌, List, [], ◌∷◌, length, get_or, replicate, refl, sym, ap, subst, ◌∙◌, arith, eq-eqb, Option, None}
use Rattle.std.specs.Prelude.{not, min, fold}
use Rattle.std.specs.List.{position_or_len, range_with_len}
use Rattle.std.proofs.lemmas.Bool.{both_ways, cases_eq, cases_lt, cases_Bool, ne_eqb, eqb-true, or_cases, or_left, or_right}
use Rattle.std.proofs.lemmas.List.{get_or-replicate, length-replicate, get_or_default, same_lists}
use Rattle.std.proofs.lemmas.List.FromFn.{length-map-range_with_len, get_or-map-range_with_len}
use Rattle.std.proofs.lemmas.List.Sums.{prefix_len_is}
use Rattle.bit_words.specs.Lists.{tabulate}
use Rattle.orbits.specs.Points.{has}
use Rattle.orbits.proofs.Orbits.{orbit_own, orbit_inside, orbit_back, orbit_same}
use Rattle.orbits.proofs.Numbers.{same_numbers, from_range, has_place, place_in}
use Rattle.id_names.specs.Cycles.{IsPlacePermutation, AreVisited, HavePointers, cycle, least_member, mark_at, mark_of, marks_of}
use Rattle.id_names.proofs.Members.{AreMembers, members_of, permutes, number_there}

-- the least of some numbers
pub least_is : (m a : ℕ) (xs : List ℕ) → (m ≡ a) ⊎ (has (λ x y. x == y) xs m ≡ true) → m ≤ a → ((y : ℕ) → has (λ x y. x == y) xs y ≡ true → m ≤ y) → fold min a xs ≡ m
least_is m a [] there most least = elim there [ inl is ↦ sym is | inr on ↦ absurd (both_ways false refl on) ]
least_is m a (x ∷ xs) there most least =
    let x_above : m ≤ x = least x (or_left _ _ (eq-eqb x x refl)) in
    least_is m (min a x) xs (elim there [
      | inl is ↦ inl (omega arith)
      | inr on ↦ elim (or_cases (m == x) (has (λ x y. x == y) xs m) on) [
        | inl is ↦ let e = eqb-true m x is in inl (omega arith)
        | inr more ↦ inr more
      ]
    ]) (omega arith) (λ y on. least y (or_right _ _ on))

-- where a member stands
pub position_is : (places : List ℕ) (first : ℕ) (members : List ℕ) → AreMembers places first members → (i : ℕ) → i < length members → position_or_len (λ x. x == get_or members i 0) members ≡ i
position_is places first members m i l =
    prefix_len_is (λ x. not (x == get_or members i 0)) members i 0 (omega arith)
    (λ k h. (let e = ne_eqb (get_or members k 0) (get_or members i 0) (λ is. absurd (let same = m.once k i (omega arith) l is in omega arith)) in rw e refl))
    (λ h. (let e = eq-eqb (get_or members i 0) (get_or members i 0) refl in rw e refl))

-- What is visited are whole cycles, and these have their pointers; the first k numbers are visited.
pub record IsSwept (places : List ℕ) (stride k : ℕ) (visited : List Bool) (marks : List (Option ℕ)) : Type 0 where
  pub visited_size : length visited ≡ length places
  pub marks_size : length marks ≡ length places
  pub done : (d : ℕ) → d < k → get_or visited d false ≡ true
  pub whole : (x y : ℕ) → x < length places → get_or visited x false ≡ true → has (λ x y. x == y) (cycle places x) y ≡ true → get_or visited y false ≡ true
  pub right : (x : ℕ) → x < length places → get_or visited x false ≡ true → get_or marks x None ≡ mark_of places stride x
  pub fresh : (x : ℕ) → x < length places → get_or visited x false ≡ false → get_or marks x None ≡ None

module _ (places : List ℕ) (are : IsPlacePermutation places) (stride : ℕ) where
  pub own : (k : ℕ) → k < length places → has (λ x y. x == y) (cycle places k) k ≡ true
  own k h = orbit_own same_numbers (range_with_len 0 (length places)) (λ k. get_or places k 0) k (number_there places are k h)

  pub inside : (k y : ℕ) → k < length places → has (λ x y. x == y) (cycle places k) y ≡ true → y < length places
  inside k y h on =
      let r = from_range 0 (length places) y (orbit_inside same_numbers (range_with_len 0 (length places)) (λ k. get_or places k 0) (permutes places are) k y (number_there places are k h) on) in
      omega (arith, r.1)

  pub back : (k y : ℕ) → k < length places → has (λ x y. x == y) (cycle places k) y ≡ true → has (λ x y. x == y) (cycle places y) k ≡ true
  back k y h on = orbit_back same_numbers (range_with_len 0 (length places)) (λ k. get_or places k 0) (permutes places are) k y (number_there places are k h) on

  pub on_same : (k x y : ℕ) → k < length places → has (λ x y. x == y) (cycle places k) x ≡ true → has (λ x y. x == y) (cycle places x) y ≡ true → has (λ x y. x == y) (cycle places k) y ≡ true
  on_same k x y h on further = sym (orbit_same same_numbers (range_with_len 0 (length places)) (λ k. get_or places k 0) (permutes places are) k x (number_there places are k h) on y) ∙ further

  -- the members of a cycle whose least one is k have it as their least
  least_of : (k x : ℕ) → k < length places → ((y : ℕ) → has (λ x y. x == y) (cycle places k) y ≡ true → k ≤ y) → has (λ x y. x == y) (cycle places k) x ≡ true → least_member places x ≡ k
  least_of k x h least on = least_is k x (cycle places x) (inr (back k x h on)) (least x on) (λ y further. least y (on_same k x y h on further))

  pub mark_of_member : (k i : ℕ) → k < length places → ((y : ℕ) → has (λ x y. x == y) (cycle places k) y ≡ true → k ≤ y) → i < length (cycle places k) → mark_of places stride (get_or (cycle places k) i 0) ≡ mark_at stride (cycle places k) i
  unfolding mark_of
  mark_of_member k i h least l =
      let x = get_or (cycle places k) i 0 in
      let e = least_of k x h least (has_place (cycle places k) i l) in
      subst (λ z. mark_at stride (cycle places z) (position_or_len (λ y. y == x) (cycle places z)) ≡ mark_at stride (cycle places k) i) (sym e)
      (ap (mark_at stride (cycle places k)) (position_is places k (cycle places k) (members_of places are k h) i l))

  pub swept_none : IsSwept places stride 0 (replicate (length places) false) (replicate (length places) None)
  swept_none =
      let none : (x : ℕ) → x < length places → get_or (replicate (length places) false) x false ≡ false = λ x h. get_or-replicate (length places) x false false h in
      record {
        visited_size = length-replicate (length places) false;
        marks_size = length-replicate (length places) None;
        done = λ d h. absurd (omega arith);
        whole = λ x y h is on. absurd (both_ways _ (none x h) is);
        right = λ x h is. absurd (both_ways _ (none x h) is);
        fresh = λ x h is. get_or-replicate (length places) x None None h;
      }

  pub swept_skip : (k : ℕ) (visited : List Bool) (marks : List (Option ℕ)) → IsSwept places stride k visited marks → get_or visited k false ≡ true → IsSwept places stride (k + 1) visited marks
  swept_skip k visited marks s there = record {
    visited_size = s.visited_size;
    marks_size = s.marks_size;
    done = λ d h. elim (cases_eq d k) [ inl is ↦ subst (λ z. get_or visited z false ≡ true) (sym is) there | inr ne ↦ s.done d (omega arith) ];
    whole = s.whole;
    right = s.right;
    fresh = s.fresh;
  }

  module _ (k : ℕ) (visited : List Bool) (marks : List (Option ℕ)) (s : IsSwept places stride k visited marks) (within : k < length places) (unvisited : get_or visited k false ≡ false) where
    -- no member of the cycle has been visited, so none is below k
    members_unvisited : (y : ℕ) → has (λ x y. x == y) (cycle places k) y ≡ true → get_or visited y false ≡ false
    members_unvisited y on = elim (cases_Bool (get_or visited y false)) [
      | inl was ↦ absurd (both_ways _ unvisited (s.whole y k (inside k y within on) was (back k y within on)))
      | inr none ↦ none
    ]

    members_above : (y : ℕ) → has (λ x y. x == y) (cycle places k) y ≡ true → k ≤ y
    members_above y on = elim (cases_lt y k) [
      | inl less ↦ absurd (both_ways _ (members_unvisited y on) (s.done y less))
      | inr more ↦ more
    ]

    pub members_left : (i : ℕ) → i < length (cycle places k) → get_or visited (get_or (cycle places k) i 0) false ≡ false
    members_left i l = members_unvisited (get_or (cycle places k) i 0) (has_place (cycle places k) i l)

    pub members_fresh : (i : ℕ) → i < length (cycle places k) → get_or marks (get_or (cycle places k) i 0) None ≡ None
    members_fresh i l =
        let on = has_place (cycle places k) i l in
        let y = get_or (cycle places k) i 0 in
        s.fresh y (inside k y within on) (members_unvisited y on)

    module _ (visited' : List Bool) (marks' : List (Option ℕ)) (v : AreVisited (cycle places k) visited visited') (m : HavePointers stride (cycle places k) marks marks') where
      now_visited : (x : ℕ) → has (λ x y. x == y) (cycle places k) x ≡ true → get_or visited' x false ≡ true
      now_visited x on = let p = place_in (cycle places k) x on in subst (λ z. get_or visited' z false ≡ true) p.2 (v.inside p.0 p.1)

      before_visited : (x : ℕ) → x < length places → has (λ x y. x == y) (cycle places k) x ≡ false → get_or visited' x false ≡ get_or visited x false
      before_visited x h off = v.outside x (omega (arith, s.visited_size)) off

      still_visited : (x : ℕ) → x < length places → get_or visited x false ≡ true → get_or visited' x false ≡ true
      still_visited x h was = elim (cases_Bool (has (λ x y. x == y) (cycle places k) x)) [
        | inl on ↦ now_visited x on
        | inr off ↦ before_visited x h off ∙ was
      ]

      pub swept_next : IsSwept places stride (k + 1) visited' marks'
      swept_next = record {
        visited_size = v.size ∙ s.visited_size;
        marks_size = m.size ∙ s.marks_size;
        done = λ d h. elim (cases_eq d k) [
          | inl is ↦ subst (λ z. get_or visited' z false ≡ true) (sym is) (now_visited k (own k within))
          | inr ne ↦ still_visited d (omega arith) (s.done d (omega arith))
        ];
        whole = λ x y h is on. elim (cases_Bool (has (λ x y. x == y) (cycle places k) x)) [
          | inl x_on ↦ now_visited y (on_same k x y within x_on on)
          | inr x_off ↦ still_visited y (inside x y h on) (s.whole x y h (sym (before_visited x h x_off) ∙ is) on)
        ];
        right = λ x h is. elim (cases_Bool (has (λ x y. x == y) (cycle places k) x)) [
          | inl on ↦ (let p = place_in (cycle places k) x on in subst (λ z. get_or marks' z None ≡ mark_of places stride z) p.2 (m.inside p.0 p.1 ∙ sym (mark_of_member k p.0 within members_above p.1)))
          | inr off ↦ m.outside x (omega (arith, s.marks_size)) off ∙ s.right x h (sym (before_visited x h off) ∙ is)
        ];
        fresh = λ x h is. elim (cases_Bool (has (λ x y. x == y) (cycle places k) x)) [
          | inl on ↦ absurd (both_ways _ is (now_visited x on))
          | inr off ↦ m.outside x (omega (arith, s.marks_size)) off ∙ s.fresh x h (sym (before_visited x h off) ∙ is)
        ];
      }

  pub swept_all : (visited : List Bool) (marks : List (Option ℕ)) → IsSwept places stride (length places) visited marks → marks ≡ marks_of places stride
  unfolding tabulate
  swept_all visited marks s = same_lists marks (marks_of places stride) (s.marks_size ∙ sym (length-map-range_with_len (mark_of places stride) 0 (length places))) (λ x d h.
      let l : x < length places = omega (arith, s.marks_size) in
      get_or_default marks x d None h ∙ s.right x l (s.done x l) ∙ sym (get_or-map-range_with_len (mark_of places stride) 0 (length places) x x d l (omega arith)))
