-- A component with so many edges of a kind has one number of that kind more.
use Rattle.std.specs.Prelude.{pos, not, find, filter, ◌&&◌}
use Rattle.std.specs.List.{range_with_len}
use Rattle.std.proofs.Common.{◌≡◌, ℕ, zero, suc, ◌+◌, ◌-◌, ◌*◌, ◌<◌, ◌≤◌, inl, inr, Bool, true, false, length, refl, ap, sym, ◌∙◌, arith, subst, Option, Some, None, ◌==◌}
use Rattle.std.proofs.lemmas.Bool.{cases_Bool, and_left, both_ways, eqb-true, eq-eqb, ne_eqb, false_from_ne_true}
use Rattle.std.proofs.lemmas.Int.{ints}
use Rattle.bit_words.specs.Lists.{is_at}
use Rattle.bit_words.specs.Bits.{rank, excess, same}
use Rattle.bit_words.proofs.Ranks.{rank_both, rank_more_yes, rank_more_no}
use Rattle.bit_words.proofs.Finds.{find-least, least-find}
use Rattle.rank_select.proofs.Selects.{cases_kind, same-self, same-other}
use Rattle.parens.specs.Matching.{is_open}
use Rattle.parens.proofs.Arcs.{IsArc, arc-opens, arc-closes}
use Rattle.code_laws.specs.Code.{Code, positions, is_tree, is_first, parens, place, component_of, component_count, start_of, end_of}
use Rattle.code_laws.specs.Numbers.{node_of, ring_of, enclosing_pair, is_ring}
use Rattle.code_laws.specs.Counts.{positions_in, begins_node, begins_ring, nodes_in, rings_in, edges_in, edges_of_kind}
use Rattle.code_laws.specs.Orbits.{is_beside}
use Rattle.code_laws.specs.declared.ring_number.RingNumber.{RingNumber}
use Rattle.code_laws.specs.declared.ring_number.RingNumber.TheVariants.{Outer, Shell}
use Rattle.code_laws.proofs.Apart.{number_past}
use Rattle.code_laws.proofs.Places.{place_next, place_other, place_before}
use Rattle.code_laws.proofs.Steps.{IsIn, HasMate, Opens, Closes, pair-number, at_place}
use Rattle.code_laws.proofs.Sound.{SoundParts, whole, flat, rises, in_one, is_component, mates, start_within, places_within}
use Rattle.code_laws.proofs.Mates.{first_at}
use Rattle.code_laws.proofs.Edges.{place_in}
use Rattle.code_laws.proofs.Firsts.{first_gap}
use Rattle.code_laws.proofs.Beside.{beside-from, beside-to, beside-self}
use Rattle.code_laws.proofs.Numbered.{ring-beside, beside-ring, node-beside, beside-node}
use Rattle.code_laws.proofs.Stacks.{filter-same, same_tests}

-- no position before p is beside p
leads : Code → Bool → ℕ → Bool
leads c kind p = is_at (find (is_beside c kind p) (positions c)) p

-- p is the first of an edge of this kind
opens_at : Code → Bool → ℕ → Bool
opens_at c kind p = same kind (is_tree c p) && is_first c p

is_at-same : (j : ℕ) → is_at (Some j) j ≡ true
is_at-same j = eq-eqb j j refl

module _ (c : Code) (s : SoundParts c) (kind : Bool) where
  leads-yes : (p : ℕ) → p < length c.a → ((q : ℕ) → q < p → is_beside c kind p q ≡ false) → leads c kind p ≡ true
  unfolding leads
  leads-yes p l none =
      rw (find-least (is_beside c kind p) 0 (length c.a) p (record { from = omega arith; within = omega arith; passes = beside-self c kind p; before = λ q a b. none q b }))
      (is_at-same p)

  is_at-some : (o : Option ℕ) (p : ℕ) → is_at o p ≡ true → o ≡ Some p
  is_at-some None p h = cc
  is_at-some (Some j) p h = ap Some (eqb-true j p h)

  leads-no : (p q : ℕ) → q < p → is_beside c kind p q ≡ true → leads c kind p ≡ false
  unfolding leads
  leads-no p q l b =
      false_from_ne_true _ (λ t. both_ways _ ((least-find (is_beside c kind p) 0 (length c.a) p (is_at-some (find (is_beside c kind p) (positions c)) p t)).before q (omega arith) l) b)

  leads-start : (j : ℕ) → j < component_count c → leads c kind (start_of c j) ≡ true
  leads-start j l =
      let up = rises c s.laid j l in
      let inside = start_within c s.laid (j + 1) (omega arith) in
      let here = is_component c s (start_of c j) j l (omega arith) up in
      leads-yes (start_of c j) (omega (arith, up, inside)) (λ q b. and_left _ _ (ne_eqb _ _ (λ e.
      let i = in_one c s q (omega (arith, b, up, inside)) in
      let same : i.0 ≡ j = sym i.1.is ∙ sym e ∙ here in
      let from : start_of c j ≤ q = subst (λ x. start_of c x ≤ q) same i.1.from in
      omega (arith, from, b))))

  opens-no : (p : ℕ) → is_tree c p ≡ not kind → opens_at c kind p ≡ false
  unfolding opens_at
  opens-no p is = rw is (rw (same-other kind) refl)

  opens-is : (p : ℕ) → is_tree c p ≡ kind → opens_at c kind p ≡ is_open (parens c kind) (place c kind p)
  unfolding opens_at
  opens-is p is = rw (first_at c kind p (place c kind p) is refl) (rw is (rw (same-self kind) refl))

  beside-of : (p q : ℕ) → component_of c q ≡ component_of c p → enclosing_pair c kind q ≡ enclosing_pair c kind p → is_beside c kind p q ≡ true
  beside-of p q m e = beside-to c kind p q (record { component = m; number = e })

  after_pair : (p m : ℕ) → IsIn c p m → p + 1 < end_of c m → (is : is_tree c p ≡ kind) → HasMate c kind p m → leads c kind (p + 1) ≡ is_open (parens c kind) (place c kind p)
  after_pair p m i inside is (Opens q j arc k order to) =
      let opens = opened p j arc in
      let gap = first_gap c s kind p m i is (Opens q j arc k order to) opens in
      leads-yes (p + 1) gap.0 (λ y l. false_from_ne_true _ (λ b.
      let a = beside-from c kind (p + 1) y b in
      gap.2 y (omega arith) (a.number ∙ gap.1)))
      ∙ sym opens
    where
      opened : (p j : ℕ) → IsArc (parens c kind) (place c kind p) j → is_open (parens c kind) (place c kind p) ≡ true
      opened p j arc = arc-opens (parens c kind) (place c kind p) j arc
  after_pair p m i inside is (Closes q n arc k order from) =
      let closes = arc-closes (parens c kind) n (place c kind p) arc in
      let next = place_next c kind p (omega (arith, i.to, i.within)) is in
      let past : enclosing_pair c kind (p + 1) ≡ enclosing_pair c kind q =
      at_place c kind (p + 1) (place c kind p + 1) next
      ∙ number_past (parens c kind) (whole c s kind) n (place c kind p) arc
      ∙ sym (at_place c kind q n k.at_place) in
      let q_is = is_component c s q m i.count from (omega (arith, i.to, order)) in
      let p_is = is_component c s (p + 1) m i.count (omega (arith, i.from)) inside in
      leads-no (p + 1) q (omega (arith, order)) (beside-of (p + 1) q (q_is ∙ sym p_is) (sym past)) ∙ sym closes

  leads-next : (p m : ℕ) → IsIn c p m → p + 1 < end_of c m → leads c kind (p + 1) ≡ opens_at c kind p
  leads-next p m i inside =
      elim (cases_kind kind (is_tree c p)) [
        | inl is ↦ after_pair p m i inside is (mates c s kind p m i is) ∙ sym (opens-is p is)
        | inr other ↦
            let same : enclosing_pair c kind (p + 1) ≡ enclosing_pair c kind p = at_place c kind (p + 1) (place c kind p) (place_other c kind p (omega (arith, i.to, i.within)) other) ∙ sym (pair-number c kind p) in
            let p_is = is_component c s (p + 1) m i.count (omega (arith, i.from)) inside in
            leads-no (p + 1) p (omega arith) (beside-of (p + 1) p (i.is ∙ sym p_is) (sym same)) ∙ sym (opens-no p other)
      ]

  -- the last position of a component opens nothing
  last_closes : (p m : ℕ) → IsIn c p m → p + 1 ≡ end_of c m → opens_at c kind p ≡ false
  last_closes p m i e =
      elim (cases_kind kind (is_tree c p)) [
        | inr other ↦ opens-no p other
        | inl is ↦ opens-is p is ∙ at p m i e (mates c s kind p m i is)
      ]
    where
      at : (p m : ℕ) → IsIn c p m → p + 1 ≡ end_of c m → HasMate c kind p m → is_open (parens c kind) (place c kind p) ≡ false
      at p m i e (Opens q j arc k order to) = absurd (omega (arith, order, to, e))
      at p m i e (Closes q n arc k order from) = arc-closes (parens c kind) n (place c kind p) arc

  -- the positions that open an edge, by the ranks of their places
  opened : (low d : ℕ) → low + d ≤ length c.a → rank true (parens c kind) (place c kind low) + length (filter (opens_at c kind) (range_with_len low d)) ≡ rank true (parens c kind) (place c kind (low + d))
  opened low zero h = let e : low ≡ low + 0 = omega arith in let f : rank true (parens c kind) (place c kind low) ≡ rank true (parens c kind) (place c kind (low + 0)) = ap (λ x. rank true (parens c kind) (place c kind x)) e in omega (arith, f)
  opened low (suc d) h =
      let more = opened (low + 1) d (omega arith) in
      let e : low + 1 + d ≡ low + suc d = omega arith in
      let f : rank true (parens c kind) (place c kind (low + 1 + d)) ≡ rank true (parens c kind) (place c kind (low + suc d)) = ap (λ x. rank true (parens c kind) (place c kind x)) e in
      elim (cases_kind kind (is_tree c low)) [
        | inr other ↦
            let same : rank true (parens c kind) (place c kind (low + 1)) ≡ rank true (parens c kind) (place c kind low) = ap (rank true (parens c kind)) (place_other c kind low (omega arith) other) in
            rw (opens-no low other) (omega (arith, more, same, f))
        | inl is ↦
            let next : rank true (parens c kind) (place c kind (low + 1)) ≡ rank true (parens c kind) (place c kind low + 1) = ap (rank true (parens c kind)) (place_next c kind low (omega arith) is) in
            let inside = place_in c s kind low (omega arith) is in
            elim (cases_Bool (is_open (parens c kind) (place c kind low))) [
              | inl o ↦
                  let up = rank_more_yes true (parens c kind) (place c kind low) false inside o in
                  rw (opens-is low is ∙ o) (omega (arith, more, next, up, f))
              | inr n ↦
                  let stays = rank_more_no true (parens c kind) (place c kind low) false inside n in
                  rw (opens-is low is ∙ n) (omega (arith, more, next, stays, f))
            ]
      ]

  shifted : (low d : ℕ) → ((p : ℕ) → low ≤ p → p < low + d → leads c kind (p + 1) ≡ opens_at c kind p)
      → length (filter (leads c kind) (range_with_len (low + 1) d)) ≡ length (filter (opens_at c kind) (range_with_len low d))
  shifted low zero same = refl
  shifted low (suc d) same =
      let more = shifted (low + 1) d (λ p a b. same p (omega arith) (omega arith)) in
      let here = same low (omega arith) (omega arith) in
      elim (cases_Bool (opens_at c kind low)) [
        | inl w ↦ rw w (rw (here ∙ w) (ap suc more))
        | inr n ↦ rw n (rw (here ∙ n) more)
      ]

  last_counts : (low d : ℕ) → opens_at c kind (low + d) ≡ false → length (filter (opens_at c kind) (range_with_len low (suc d))) ≡ length (filter (opens_at c kind) (range_with_len low d))
  last_counts low zero h = let e : low + 0 ≡ low = omega arith in rw (subst (λ x. opens_at c kind x ≡ false) e h) refl
  last_counts low (suc d) h =
      let e : low + suc d ≡ low + 1 + d = omega arith in
      let more = last_counts (low + 1) d (subst (λ x. opens_at c kind x ≡ false) e h) in
      elim (cases_Bool (opens_at c kind low)) [
        | inl w ↦ rw w (ap suc more)
        | inr n ↦ rw n more
      ]

  half_open : (x : ℕ) → x ≤ length (parens c kind) → excess (parens c kind) x ≡ pos 0 → 2 * rank true (parens c kind) x ≡ x
  unfolding excess
  half_open x l e = let b = rank_both (parens c kind) x l in omega (arith, ints, e, b)

  leaders : (j : ℕ) → j < component_count c → length (filter (leads c kind) (positions_in c j)) ≡ edges_of_kind c kind j + 1
  leaders j l =
      let low = start_of c j in
      let high = end_of c j in
      let up = rises c s.laid j l in
      let inside = start_within c s.laid (j + 1) (omega arith) in
      let d = high - low - 1 in
      let all : high - low ≡ suc d = omega (arith, up) in
      let to : low + suc d ≡ high = omega (arith, up) in
      let at : (p : ℕ) → low ≤ p → p < high → IsIn c p j = λ p a b. record { count = l; from = a; to = b; within = inside; is = is_component c s p j l a b } in
      let shift = shifted low d (λ p a b. leads-next p j (at p a (omega (arith, b, up))) (omega (arith, b, up))) in
      let last = last_counts low d (last_closes (low + d) j (at (low + d) (omega arith) (omega (arith, up))) (omega (arith, up))) in
      let count = opened low (suc d) (omega (arith, up, inside)) in
      let at_end : rank true (parens c kind) (place c kind (low + suc d)) ≡ rank true (parens c kind) (place c kind high) = ap (λ x. rank true (parens c kind) (place c kind x)) to in
      let h0 = half_open (place c kind low) (places_within c s.laid kind low (omega (arith, up, inside))) (flat c s kind j (omega arith)) in
      let h1 = half_open (place c kind high) (places_within c s.laid kind high (omega (arith, inside))) (flat c s kind (j + 1) (omega arith)) in
      let whole_count : length (filter (leads c kind) (range_with_len low (suc d))) ≡ edges_of_kind c kind j + 1
      = rw (leads-start j l) (omega (arith, shift, last, count, at_end, h0, h1)) in
      subst (λ n. length (filter (leads c kind) (range_with_len low n)) ≡ edges_of_kind c kind j + 1) (sym all) whole_count

-- tests that agree over a range
find-same : (p r : ℕ → Bool) (low n : ℕ) → ((x : ℕ) → low ≤ x → x < low + n → p x ≡ r x) → find p (range_with_len low n) ≡ find r (range_with_len low n)
find-same p r low zero same = refl
find-same p r low (suc n) same =
    let more = find-same p r (low + 1) n (λ x a b. same x (omega arith) (omega arith)) in
    elim (cases_Bool (r low)) [
      | inl w ↦ rw w (rw (same low (omega arith) (omega arith) ∙ w) refl)
      | inr f ↦ rw f (rw (same low (omega arith) (omega arith) ∙ f) more)
    ]

ring-is : (x y : RingNumber) → is_ring x y ≡ true → x ≡ y
ring-is (Outer i) (Outer j) h = ap Outer (sym (eqb-true _ _ h))
ring-is (Outer i) (Shell j) h = cc
ring-is (Shell i) (Outer j) h = cc
ring-is (Shell i) (Shell j) h = ap Shell (sym (eqb-true _ _ h))

is-ring : (x y : RingNumber) → x ≡ y → is_ring x y ≡ true
is-ring x y e = subst (λ z. is_ring x z ≡ true) e (at x)
  where
    at : (x : RingNumber) → is_ring x x ≡ true
    at (Outer i) = eq-eqb i i refl
    at (Shell i) = eq-eqb i i refl

module _ (c : Code) (s : SoundParts c) where
  node-leads : (p : ℕ) → p < length c.a → begins_node c p ≡ leads c true p
  unfolding leads
  node-leads p l =
      ap (λ o. is_at o p) (find-same (λ q. node_of c q == node_of c p) (is_beside c true p) 0 (length c.a) (λ q a b.
      let m : q < length c.a = omega arith in
      same_tests _ _ (λ t. beside-to c true p q (node-beside c s p q l m (sym (eqb-true _ _ t)))) (λ t. eq-eqb _ _ (sym (beside-node c s p q l m (beside-from c true p q t))))))

  ring-leads : (p : ℕ) → p < length c.a → begins_ring c p ≡ leads c false p
  unfolding leads
  ring-leads p l =
      ap (λ o. is_at o p) (find-same (λ q. is_ring (ring_of c p) (ring_of c q)) (is_beside c false p) 0 (length c.a) (λ q a b.
      let m : q < length c.a = omega arith in
      same_tests _ _ (λ t. beside-to c false p q (ring-beside c s p q l m (ring-is _ _ t))) (λ t. is-ring _ _ (beside-ring c s p q l m (beside-from c false p q t)))))

  module _ (j : ℕ) (l : j < component_count c) where
    pub nodes_counted : nodes_in c j ≡ edges_of_kind c true j + 1
    nodes_counted =
        let up = rises c s.laid j l in
        let inside = start_within c s.laid (j + 1) (omega arith) in
        ap length (filter-same (begins_node c) (leads c true) (start_of c j) (end_of c j - start_of c j) (λ p a b. node-leads p (omega (arith, up, inside)))) ∙ leaders c s true j l

    pub rings_counted : rings_in c j ≡ edges_of_kind c false j + 1
    rings_counted =
        let up = rises c s.laid j l in
        let inside = start_within c s.laid (j + 1) (omega arith) in
        ap length (filter-same (begins_ring c) (leads c false) (start_of c j) (end_of c j - start_of c j) (λ p a b. ring-leads p (omega (arith, up, inside)))) ∙ leaders c s false j l

    pub edges_counted : edges_in c j ≡ edges_of_kind c true j + edges_of_kind c false j
    edges_counted =
        let up = rises c s.laid j l in
        let inside = start_within c s.laid (j + 1) (omega arith) in
        let low = rank_both c.a (start_of c j) (omega (arith, up, inside)) in
        let high = rank_both c.a (end_of c j) inside in
        let t0 = half_open c s true (place c true (start_of c j)) (places_within c s.laid true (start_of c j) (omega (arith, up, inside))) (flat c s true j (omega arith)) in
        let t1 = half_open c s true (place c true (end_of c j)) (places_within c s.laid true (end_of c j) inside) (flat c s true (j + 1) (omega arith)) in
        let d0 = half_open c s false (place c false (start_of c j)) (places_within c s.laid false (start_of c j) (omega (arith, up, inside))) (flat c s false j (omega arith)) in
        let d1 = half_open c s false (place c false (end_of c j)) (places_within c s.laid false (end_of c j) inside) (flat c s false (j + 1) (omega arith)) in
        let rise_t = place_before c true (start_of c j) (end_of c j) (omega (arith, up)) in
        let rise_d = place_before c false (start_of c j) (end_of c j) (omega (arith, up)) in
        omega (arith, low, high, t0, t1, d0, d1, rise_t, rise_d)
