-- The places of a walk as pairs on a cycle: a place of a tree edge has no mate, and each other has the place of the
-- reverse dart. So the place after the mate of a place is where the next dart stands.
use Rattle.std.proofs.Common.{◌≡◌, ℕ, ◌+◌, ◌-◌, ◌%◌, ◌<◌, ◌≤◌, ◌⊎◌, Bool, true, false, not, ◌&&◌, refl, sym, ◌∙◌, ap, inl, inr, arith}
use Rattle.std.specs.Prelude.{nat_lt}
use Rattle.std.proofs.lemmas.Bool.{cases_eq, cases_Bool, cases_lt, both_ways, lt-ltb, le-ltb}
use Rattle.cycle_pairs.specs.Pairs.{IsPairing, after_mate}
use Rattle.cycle_pairs.proofs.Orbits.{after_cases}
use Rattle.spanning_pair.specs.Darts.{reverse_dart}
use Rattle.orbits.specs.Components.InComponent.{reversed}
use Rattle.spanning_pair.specs.Walks.{after, IsTreeWalk}
use Rattle.spanning_pair.proofs.OtherDart.{reverse_reverse, reverse_other}

module _ (next node : ℕ → ℕ) (start : ℕ) (dart : ℕ → ℕ) (tree first : ℕ → Bool) (a b : ℕ) (w : IsTreeWalk next node start dart tree first a b) where
  -- what the mate j of the place i is
  record IsMate (i j : ℕ) : Type 0 where
    within : j < b - a
    of_tree : tree (a + i) ≡ true → j ≡ i
    of_other : tree (a + i) ≡ false → dart (a + j) ≡ reverse_dart (dart (a + i))

  mate_at : (i : ℕ) → (j : ℕ) × (i < b - a → IsMate i j)
  mate_at i = elim (cases_lt i (b - a)) [
    | inr out ↦ (i, λ l. absurd (omega arith))
    | inl l ↦ elim (cases_Bool (tree (a + i))) [
      | inl y ↦ (i, λ _. record { within = l; of_tree = λ _. refl; of_other = λ n. absurd (both_ways _ n y) })
      | inr n ↦
          let s = (w.members (reverse_dart (dart (a + i)))).0 (reversed (dart (a + i)) ((w.members (dart (a + i))).1 (a + i, omega arith, omega arith, refl))) in
          let l1 : a ≤ s.0 = s.1 in
          let l2 : s.0 < b = s.2 in
          let e : a + (s.0 - a) ≡ s.0 = omega arith in
          (s.0 - a, λ _. record { within = omega arith; of_tree = λ y. absurd (both_ways _ n y); of_other = λ _. ap dart e ∙ s.3 })
    ]
  ]

  pub mate_of : ℕ → ℕ
  mate_of i = (mate_at i).0

  its_mate : (i : ℕ) → i < b - a → IsMate i (mate_of i)
  unfolding mate_of
  its_mate i l = (mate_at i).1 l

  pub alone : (i : ℕ) → i < b - a → tree (a + i) ≡ true → mate_of i ≡ i
  alone i l y = (its_mate i l).of_tree y

  pub mate_other : (i : ℕ) → i < b - a → tree (a + i) ≡ false → dart (a + mate_of i) ≡ reverse_dart (dart (a + i))
  mate_other i l n = (its_mate i l).of_other n

  pub same_place : (i j : ℕ) → i < b - a → j < b - a → dart (a + i) ≡ dart (a + j) → i ≡ j
  same_place i j l k e = let s : a + i ≡ a + j = w.once (a + i) (a + j) (omega arith) (omega arith) (omega arith) (omega arith) e in omega arith

  pub is_mate : (i j : ℕ) → i < b - a → j < b - a → tree (a + i) ≡ false → dart (a + j) ≡ reverse_dart (dart (a + i)) → mate_of i ≡ j
  is_mate i j l k n e = same_place (mate_of i) j (its_mate i l).within k (mate_other i l n ∙ sym e)

  mate_is_other : (i : ℕ) → i < b - a → tree (a + i) ≡ false → tree (a + mate_of i) ≡ false
  mate_is_other i l n =
      let m = (its_mate i l).within in
      sym (w.both_tree (a + i) (a + mate_of i) (omega arith) (omega arith) (omega arith) (omega arith) (mate_other i l n)) ∙ n

  pub pairing : IsPairing (b - a) mate_of
  pairing = record {
    in_range = λ i l. (its_mate i l).within;
    back = λ i l. elim (cases_Bool (tree (a + i))) [
      | inl y ↦ let e = (its_mate i l).of_tree y in ap mate_of e ∙ e
      | inr n ↦ is_mate (mate_of i) i (its_mate i l).within l (mate_is_other i l n) (sym (ap reverse_dart (mate_other i l n) ∙ reverse_reverse (dart (a + i))))
    ];
  }

  -- the place behind a place, round the walk
  behind : (j : ℕ) → j < b - a → dart (a + (j + 1) % (b - a)) ≡ after next (tree (a + j)) (dart (a + j))
  behind j l = elim (after_cases (b - a) j l) [
    | inl h ↦
        let lt : j + 1 < b - a = h.0 in
        let e : a + (j + 1) ≡ (a + j) + 1 = omega arith in
        ap (λ k. dart (a + k)) h.1 ∙ ap dart e ∙ w.goes_on (a + j) (omega arith) (omega arith)
    | inr h ↦
        let end : j + 1 ≡ b - a = h.0 in
        let e : a + 0 ≡ a = omega arith in
        ap (λ k. dart (a + k)) h.1 ∙ ap dart e ∙ w.begins ∙ w.comes_back (a + j) (omega arith) (omega arith)
  ]

  -- the place after the mate has the next dart
  pub steps_on : (i : ℕ) → i < b - a → dart (a + after_mate (b - a) mate_of i) ≡ next (dart (a + i))
  steps_on i l = elim (cases_Bool (tree (a + i))) [
    | inl y ↦
        let e = (its_mate i l).of_tree y in
        ap (λ j. dart (a + (j + 1) % (b - a))) e ∙ behind i l ∙ ap (λ v. after next v (dart (a + i))) y
    | inr n ↦
        behind (mate_of i) (its_mate i l).within ∙ ap (λ v. after next v (dart (a + mate_of i))) (mate_is_other i l n)
        ∙ ap (λ d. next (reverse_dart d)) (mate_other i l n) ∙ ap next (reverse_reverse (dart (a + i)))
  ]

  -- a place comes before its mate exactly where an edge is new there and no tree edge
  pub begins_pair : (i : ℕ) → i < b - a → nat_lt i (mate_of i) ≡ (first (a + i) && not (tree (a + i)))
  begins_pair i l = elim (cases_Bool (tree (a + i))) [
    | inl y ↦
        let e : mate_of i ≡ i = (its_mate i l).of_tree y in
        le-ltb i (mate_of i) (omega arith) ∙ (elim (cases_Bool (first (a + i))) [ inl f ↦ rw (y, f) refl | inr f ↦ rw (y, f) refl ])
    | inr n ↦
        let m : mate_of i < b - a = (its_mate i l).within in
        elim (cases_Bool (first (a + i))) [
          | inl f ↦
              let other : mate_of i ≡ i → ⊥ = λ e. reverse_other (dart (a + i)) (sym (mate_other i l n) ∙ ap (λ j. dart (a + j)) e) in
              let later : mate_of i < i → ⊥ = λ k. w.first_new (a + i) (a + mate_of i) (omega arith) f (omega arith) (omega arith) (mate_other i l n) in
              rw (n, f) (lt-ltb i (mate_of i) (elim (cases_lt i (mate_of i)) [ inl k ↦ k | inr k ↦ absurd (elim (cases_eq (mate_of i) i) [ inl e ↦ other e | inr ne ↦ later (omega arith) ]) ]))
          | inr f ↦
              let q = w.first_old (a + i) (omega arith) (omega arith) f in
              let l1 : a ≤ q.0 = q.1 in
              let l2 : q.0 < a + i = q.2 in
              let e : a + (q.0 - a) ≡ q.0 = omega arith in
              let is : mate_of i ≡ q.0 - a = is_mate i (q.0 - a) l (omega arith) n (ap dart e ∙ q.3) in
              rw (n, f) (le-ltb i (mate_of i) (omega arith))
        ]
  ]

  -- an edge's first place in the walk
  pub first_place : (p : ℕ) → a ≤ p → p < b → (q : ℕ) × (a ≤ q) × (q < b) × (first q ≡ true) × ((dart p ≡ dart q) ⊎ (dart p ≡ reverse_dart (dart q)))
  first_place p la h = elim (cases_Bool (first p)) [
    | inl f ↦ (p, la, h, f, inl refl)
    | inr f ↦
        let q = w.first_old p la h f in
        let l1 : a ≤ q.0 = q.1 in
        let l2 : q.0 < p = q.2 in
        let back : dart p ≡ reverse_dart (dart q.0) = sym (ap reverse_dart q.3 ∙ reverse_reverse (dart p)) in
        let is_first : first q.0 ≡ true = elim (cases_Bool (first q.0)) [
          | inl y ↦ y
          | inr n ↦
              let r = w.first_old q.0 q.1 (omega arith) n in
              let l3 : r.0 < q.0 = r.2 in
              let same : r.0 ≡ p = w.once r.0 p r.1 (omega arith) la h (r.3 ∙ sym back) in
              absurd (omega arith)
        ] in
        (q.0, q.1, omega arith, is_first, inr back)
  ]

  -- an edge is new at one place
  pub one_first : (p q : ℕ) → a ≤ p → p < b → a ≤ q → q < b → first p ≡ true → first q ≡ true → (dart q ≡ dart p) ⊎ (dart q ≡ reverse_dart (dart p)) → p ≡ q
  one_first p q lp hp lq hq fp fq s = elim s [
    | inl e ↦ w.once p q lp hp lq hq (sym e)
    | inr e ↦ elim (cases_eq p q) [
      | inl same ↦ same
      | inr ne ↦ elim (cases_lt p q) [
        | inl k ↦ absurd (w.first_new q p hq fq lp k (sym (ap reverse_dart e ∙ reverse_reverse (dart p))))
        | inr k ↦ absurd (w.first_new p q hp fp lq (omega arith) e)
      ]
    ]
  ]
