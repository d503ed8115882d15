-- Walks that come to a number: along the places, and over a jump.
use Rattle.std.specs.Option.{is_some}
use Rattle.std.specs.Prelude.{unwrap_or}
use Rattle.std.proofs.Common.{◌≡◌, ℕ, zero, suc, ◌+◌, ◌-◌, ◌<◌, ◌≤◌, inl, inr, Bool, true, false, ◌&&◌, List, length, get_or, refl, ap, sym, subst, ◌∙◌, arith, Option, Some, None}
use Rattle.std.proofs.lemmas.Bool.{cases_lt, cases_eq, cases_Bool, and_parts}
use Rattle.orbits.proofs.Reached.{stepped_on}
use Rattle.id_names.specs.Faults.{is_ordered, first_failing}
use Rattle.id_names.specs.Inverse.{walk, back_from, stride, number_at}
use Rattle.id_names.specs.Ways.{after, is_marked, AreMany}
use Rattle.id_names.proofs.FaultLaws.{failing_none, ordered_test}
use Rattle.id_names.proofs.Many.{reached}
use Rattle.id_names.proofs.Walks.{walk_past, walk_here, walk_jumps, walk_follows}

-- steps after steps
pub after_after : (places : List ℕ) (i k x : ℕ) → after places i (after places k x) ≡ after places (i + k) x
after_after places zero k x = let e : k ≡ 0 + k = omega arith in ap (λ n. after places n x) e
after_after places (suc i) k x =
    let e : suc (i + k) ≡ suc i + k = omega arith in
    ap (λ y. get_or places y 0) (after_after places i k x) ∙ ap (λ n. after places n x) e

same_some : (j k : ℕ) → Some j ≡ Some k → j ≡ k
same_some j k e = cc

not_some : (k : ℕ) → None ≡ Some k → ⊥
not_some k e = cc

some_is : (o : Option ℕ) → is_some o ≡ true → o ≡ Some (unwrap_or o 0)
some_is None e = cc
some_is (Some x) e = refl

module _ (places : List ℕ) (marks : List Bool) (back : List ℕ) where
  -- a walk whose next numbers are passed comes to one by following the places
  pub found_along : (j d t x : ℕ) (may : Bool) → d < t → ((k : ℕ) → k ≤ d → after places k x < length places) → ((k : ℕ) → k ≤ d → (may && is_marked places marks k x) ≡ false) → after places (d + 1) x ≡ j → is_some (walk places marks back j t may x) ≡ true
  found_along j zero t x may h within free e = ap is_some (walk_here places marks back j t x may (omega arith) (within 0 (omega arith)) e)
  found_along j (suc d) t x may h within free e = elim (cases_eq (get_or places x 0) j) [
    | inl is ↦ ap is_some (walk_here places marks back j t x may (omega arith) (within 0 (omega arith)) is)
    | inr ne ↦
        ap is_some (walk_follows places marks back j t x may (omega arith) (within 0 (omega arith)) ne (free 0 (omega arith)))
        ∙ found_along j d (t - 1) (get_or places x 0) may (omega arith)
        (λ k l. subst (λ y. y < length places) (stepped_on (λ y. get_or places y 0) k x) (within (suc k) (omega arith)))
        (λ k l. ap (λ y. may && get_or marks y false) (sym (stepped_on (λ y. get_or places y 0) k x)) ∙ free (suc k) (omega arith))
        (sym (stepped_on (λ y. get_or places y 0) (d + 1) x) ∙ (let same : suc (d + 1) ≡ suc d + 1 = omega arith in ap (λ n. after places n x) same) ∙ e)
  ]

  -- and over a jump from the first mark
  pub found_jump : (j d t x : ℕ) → d < t → ((k : ℕ) → k ≤ d → after places k x < length places) → ((k : ℕ) → k < d → is_marked places marks k x ≡ false) → is_marked places marks d x ≡ true → is_some (walk places marks back j (t - d - 1) false (back_from marks back (after places d x))) ≡ true → is_some (walk places marks back j t true x) ≡ true
  found_jump j zero t x h within free mark found = elim (cases_eq (get_or places x 0) j) [
    | inl is ↦ ap is_some (walk_here places marks back j t x true (omega arith) (within 0 (omega arith)) is)
    | inr ne ↦
        let n : t - 1 ≡ t - 0 - 1 = omega arith in
        ap is_some (walk_jumps places marks back j t x (omega arith) (within 0 (omega arith)) ne mark)
        ∙ ap (λ n. is_some (walk places marks back j n false (back_from marks back x))) n ∙ found
  ]
  found_jump j (suc d) t x h within free mark found = elim (cases_eq (get_or places x 0) j) [
    | inl is ↦ ap is_some (walk_here places marks back j t x true (omega arith) (within 0 (omega arith)) is)
    | inr ne ↦
        let n : t - 1 - d - 1 ≡ t - suc d - 1 = omega arith in
        ap is_some (walk_follows places marks back j t x true (omega arith) (within 0 (omega arith)) ne (free 0 (omega arith)))
        ∙ found_jump j d (t - 1) (get_or places x 0) (omega arith)
        (λ k l. subst (λ y. y < length places) (stepped_on (λ y. get_or places y 0) k x) (within (suc k) (omega arith)))
        (λ k l. ap (λ y. get_or marks y false) (sym (stepped_on (λ y. get_or places y 0) k x)) ∙ free (suc k) (omega arith))
        (ap (λ y. get_or marks y false) (sym (stepped_on (λ y. get_or places y 0) d x)) ∙ mark)
        (ap (λ y. is_some (walk places marks back j (t - 1 - d - 1) false (back_from marks back y))) (sym (stepped_on (λ y. get_or places y 0) d x))
        ∙ ap (λ n. is_some (walk places marks back j n false (back_from marks back (after places (suc d) x)))) n ∙ found)
  ]

  -- what a walk comes to has the place
  walk_to : (j t x : ℕ) (may : Bool) (z : ℕ) → walk places marks back j t may x ≡ Some z → (z < length places) × (get_or places z 0 ≡ j)
  unfolding walk
  walk_to j zero x may z e = absurd (not_some z e)
  walk_to j (suc t) x may z e =
      let t_is : suc t - 1 ≡ t = omega arith in
      elim (cases_lt x (length places)) [
        | inr out ↦ absurd (not_some z (sym (walk_past places marks back j (suc t) x may out) ∙ e))
        | inl within ↦ elim (cases_eq (get_or places x 0) j) [
          | inl is ↦
              let here : x ≡ z = same_some x z (sym (walk_here places marks back j (suc t) x may (omega arith) within is) ∙ e) in
              subst (λ z. (z < length places) × (get_or places z 0 ≡ j)) here (within, is)
          | inr ne ↦ elim (cases_Bool (may && get_or marks x false)) [
            | inl jumps ↦
                let m = and_parts may (get_or marks x false) jumps in
                let before : walk places marks back j (suc t) true x ≡ Some z = subst (λ b. walk places marks back j (suc t) b x ≡ Some z) m.0 e in
                walk_to j t (back_from marks back x) false z (ap (λ n. walk places marks back j n false (back_from marks back x)) (sym t_is) ∙ sym (walk_jumps places marks back j (suc t) x (omega arith) within ne m.1) ∙ before)
            | inr follows ↦
                walk_to j t (get_or places x 0) may z (ap (λ n. walk places marks back j n may (get_or places x 0)) (sym t_is) ∙ sym (walk_follows places marks back j (suc t) x may (omega arith) within ne follows) ∙ e)
          ]
        ]
      ]

  -- a place from which the walk comes to a number
  abbrev pub IsFound : ℕ → Type 0
  IsFound j = (j < length places) × (is_some (number_at places marks back j) ≡ true)

  -- where each place is such a one, no number fails
  module _ (many : AreMany IsFound (length places)) where
    abbrev number : ℕ → ℕ
    number i = unwrap_or (number_at places marks back (many.item i)) 0

    is_number : (i : ℕ) → i < length places → number_at places marks back (many.item i) ≡ Some (number i)
    is_number i h = some_is (number_at places marks back (many.item i)) (many.each i h).1

    has_place : (i : ℕ) → i < length places → (number i < length places) × (get_or places (number i) 0 ≡ many.item i)
    has_place i h = walk_to (many.item i) (stride (length places) + 1) (many.item i) true (number i) (is_number i h)

    one_number : (i j : ℕ) → i < length places → j < length places → number i ≡ number j → i ≡ j
    one_number i j h l e = many.once i j h l (sym (has_place i h).1 ∙ ap (λ x. get_or places x 0) e ∙ (has_place j l).1)

    ordered : (x : ℕ) → x < length places → is_ordered places (number_at places marks back) x ≡ true
    ordered x h =
        let there = reached number (length places) (λ i l. (has_place i l).0) one_number x h in
        subst (λ x. is_ordered places (number_at places marks back) x ≡ true) there.2 (ordered_test places (number_at places marks back) (number there.0) (record {
          within = subst (λ y. y < length places) (sym (has_place there.0 there.1).1) (many.each there.0 there.1).0;
          found = ap (number_at places marks back) (has_place there.0 there.1).1 ∙ is_number there.0 there.1;
        }))

    pub none_fails : first_failing (is_ordered places (number_at places marks back)) (length places) ≡ None
    none_fails = failing_none (is_ordered places (number_at places marks back)) (length places) ordered
