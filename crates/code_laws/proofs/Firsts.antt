-- The first positions of nodes and of shells.
use Rattle.std.proofs.Common.{◌≡◌, ◌≢◌, ℕ, ◌+◌, ◌*◌, ◌/◌, ◌<◌, ◌≤◌, inl, inr, Bool, true, false, length, refl, ap, sym, ◌∙◌, arith, subst, Option, Some, None, ◌==◌}
use Rattle.std.proofs.lemmas.Bool.{cases_Bool, both_ways, eqb-true, eq-eqb, ne_eqb, false_from_ne_true}
use Rattle.std.proofs.lemmas.Option.{same_Some}
use Rattle.bit_words.specs.Bits.{rank}
use Rattle.bit_words.proofs.Finds.{find-least}
use Rattle.parens.specs.Matching.{is_open}
use Rattle.parens.proofs.Arcs.{arc-closes}
use Rattle.code_laws.specs.Code.{Code, is_tree, is_first, parens, place, component_count, start_of, end_of}
use Rattle.code_laws.specs.Numbers.{edge_of, node_of, ring_of, node_or_root, shell_or_outer, is_shell, enclosing_pair, tree_edges, first_of_edge, first_of_node, first_of_shell}
use Rattle.code_laws.specs.Orbits.{same_number}
use Rattle.code_laws.proofs.Apart.{apart_before, number_first}
use Rattle.code_laws.proofs.Places.{place_before, place_next}
use Rattle.code_laws.proofs.Steps.{IsIn, HasMate, Opens, Closes, pair-number, none_at, at_place, same_number-self}
use Rattle.code_laws.proofs.Sound.{SoundParts, is_well, rises, whole, flat, mates, in_one, is_component, start_within, rises_to}
use Rattle.code_laws.proofs.Edges.{first_edge, edge_there, edge_of_kind, tree_below, other_from, open_place}

node_at : (c : Code) (p : ℕ) (o : Option ℕ) → enclosing_pair c true p ≡ o → node_of c p ≡ node_or_root c p o
unfolding node_of
node_at c p o e = ap (node_or_root c p) e

ring_at : (c : Code) (p : ℕ) (o : Option ℕ) → enclosing_pair c false p ≡ o → ring_of c p ≡ shell_or_outer c p o
unfolding ring_of
ring_at c p o e = ap (shell_or_outer c p) e

module _ (c : Code) (s : SoundParts c) where
  no_root : (q j : ℕ) → j < component_count c → q < start_of c j → q < length c.a → (o : Option ℕ) → enclosing_pair c true q ≡ o → node_of c q ≢ j
  no_root q j l b m None e n =
      let i = in_one c s q m in
      let v : i.0 ≡ j = sym i.1.is ∙ sym (node_at c q None e) ∙ n in
      let from : start_of c j ≤ q = subst (λ x. start_of c x ≤ q) v i.1.from in
      omega (arith, from, b)
  no_root q j l b m (Some x) e n = let v : component_count c + x ≡ j = sym (node_at c q (Some x) e) ∙ n in omega (arith, v, l)

  pub root_first : (j : ℕ) → j < component_count c → first_of_node c j ≡ Some (start_of c j)
  unfolding first_of_node
  root_first j l =
      let r = rises_to c s.laid (j + 1) (component_count c) (omega arith) (omega arith) in
      let up : start_of c j < end_of c j = rises c s.laid j l in
      let inside : end_of c j ≤ length c.a = start_within c s.laid (j + 1) (omega arith) in
      let none : enclosing_pair c true (start_of c j) ≡ None = none_at c (is_well c s) true (start_of c j) (omega (arith, up, inside)) (flat c s true j (omega arith)) in
      let here : node_of c (start_of c j) ≡ j = node_at c (start_of c j) None none ∙ is_component c s (start_of c j) j l (omega arith) up in
      find-least (λ p. node_of c p == j) 0 (length c.a) (start_of c j) (record {
        from = omega arith;
        within = omega (arith, up, inside);
        passes = eq-eqb _ _ here;
        before = λ q a b. false_from_ne_true _ (λ t. no_root q j l b (omega (arith, b, up, inside)) (enclosing_pair c true q) refl (eqb-true _ _ t));
      })

  -- the pair of a first position of a kind: at the next position it is the one round the gap, and at none before
  pub first_gap : (kind : Bool) (p m : ℕ) → IsIn c p m → is_tree c p ≡ kind → HasMate c kind p m → is_open (parens c kind) (place c kind p) ≡ true
      → (p + 1 < length c.a) × (enclosing_pair c kind (p + 1) ≡ Some (rank true (parens c kind) (place c kind p)))
      × ((q : ℕ) → q ≤ p → enclosing_pair c kind q ≢ Some (rank true (parens c kind) (place c kind p)))
  first_gap kind p m i is (Opens q j arc k order inside) opens =
      let p_in : p < length c.a = omega (arith, i.to, i.within) in
      let n = rank true (parens c kind) (place c kind p) in (
        omega (arith, order, k.within),
        at_place c kind (p + 1) (place c kind p + 1) (place_next c kind p p_in is) ∙ number_first (parens c kind) (whole c s kind) (place c kind p) j arc,
        λ y h e.
            let a = apart_before (parens c kind) (whole c s kind) (place c kind p) j arc (place c kind y) (place_before c kind y p h) in
            let x : same_number (Some n) (enclosing_pair c kind y) ≡ false = rw (pair-number c kind y) a in
            both_ways _ x (rw e (same_number-self (Some n))),
      )
  first_gap kind p m i is (Closes q n arc k order from) opens = absurd (both_ways _ (arc-closes (parens c kind) n (place c kind p) arc) opens)

  -- the first position of an edge is its first
  pub first_is : (e p : ℕ) → 2 * e < length c.a → first_of_edge c e ≡ Some p → (p < length c.a) × (is_first c p ≡ true) × (edge_of c p ≡ e)
  first_is e p l h =
      let t = edge_there c s e l in
      let f : first_of_edge c e ≡ Some t.0 = subst (λ x. first_of_edge c x ≡ Some t.0) t.3 (first_edge c s t.0 t.1 t.2) in
      let same : t.0 ≡ p = same_Some t.0 p (sym f ∙ h) in
      subst (λ x. (x < length c.a) × (is_first c x ≡ true) × (edge_of c x ≡ e)) same (t.1, t.2, t.3)

  not_node : (q e : ℕ) → q < length c.a → enclosing_pair c true q ≢ Some e → (o : Option ℕ) → enclosing_pair c true q ≡ o → node_of c q ≢ component_count c + e
  not_node q e l other None h n = let i = in_one c s q l in let v : i.0 ≡ component_count c + e = sym i.1.is ∙ sym (node_at c q None h) ∙ n in omega (arith, v, i.1.count)
  not_node q e l other (Some x) h n =
      let v : component_count c + x ≡ component_count c + e = sym (node_at c q (Some x) h) ∙ n in
      let y : x ≡ e = omega (arith, v) in
      other (h ∙ ap Some y)

  pub node_first : (e p : ℕ) → e < tree_edges c → first_of_edge c e ≡ Some p → first_of_node c (component_count c + e) ≡ Some (p + 1)
  unfolding first_of_node
  node_first e p l h =
      let f = first_is e p (omega (arith, l, s.laid.sizes)) h in
      let is : is_tree c p ≡ true = elim (cases_Bool (is_tree c p)) [ inl w ↦ w | inr w ↦ let v = other_from c s p f.0 w f.1 in absurd (omega (arith, v, f.2, l)) ] in
      let i = in_one c s p f.0 in
      let opens = open_place c s true p f.0 is f.1 in
      let g = first_gap true p i.0 i.1 is (mates c s true p i.0 i.1 is) opens in
      let number : rank true (parens c true) (place c true p) ≡ e = let v = edge_of_kind c true p is opens in omega (arith, v, f.2) in
      let here : node_of c (p + 1) ≡ component_count c + e = node_at c (p + 1) (Some (rank true (parens c true) (place c true p))) g.1 ∙ ap (λ x. component_count c + x) number in
      find-least (λ x. node_of c x == component_count c + e) 0 (length c.a) (p + 1) (record {
        from = omega arith;
        within = omega (arith, g.0);
        passes = eq-eqb _ _ here;
        before = λ q a b. false_from_ne_true _ (λ t. not_node q e (omega (arith, b, f.0)) (λ x. g.2 q (omega (arith, b)) (x ∙ ap Some (sym number))) (enclosing_pair c true q) refl (eqb-true _ _ t));
      })

  not_shell : (q x : ℕ) → enclosing_pair c false q ≢ Some x → (o : Option ℕ) → enclosing_pair c false q ≡ o → is_shell x (ring_of c q) ≡ false
  not_shell q x other None h = rw (ring_at c q None h) refl
  not_shell q x other (Some y) h = rw (ring_at c q (Some y) h) (ne_eqb y x (λ e. other (h ∙ ap Some e)))

  pub shell_first : (x p : ℕ) → x < length c.dual / 2 → first_of_edge c (tree_edges c + x) ≡ Some p → first_of_shell c x ≡ Some (p + 1)
  unfolding first_of_shell
  shell_first x p l h =
      let f = first_is (tree_edges c + x) p (omega (arith, l, s.laid.sizes)) h in
      let is : is_tree c p ≡ false = elim (cases_Bool (is_tree c p)) [ inl w ↦ let v = tree_below c s p f.0 w f.1 in absurd (omega (arith, v, f.2)) | inr w ↦ w ] in
      let i = in_one c s p f.0 in
      let opens = open_place c s false p f.0 is f.1 in
      let g = first_gap false p i.0 i.1 is (mates c s false p i.0 i.1 is) opens in
      let number : rank true (parens c false) (place c false p) ≡ x = let v = edge_of_kind c false p is opens in omega (arith, v, f.2) in
      let here : is_shell x (ring_of c (p + 1)) ≡ true = rw (ring_at c (p + 1) (Some (rank true (parens c false) (place c false p))) g.1) (eq-eqb _ _ number) in
      find-least (λ y. is_shell x (ring_of c y)) 0 (length c.a) (p + 1) (record {
        from = omega arith;
        within = omega (arith, g.0);
        passes = here;
        before = λ q a b. not_shell q x (λ y. g.2 q (omega (arith, b)) (y ∙ ap Some (sym number))) (enclosing_pair c false q) refl;
      })
