-- First positions by the places that open.
use Rattle.std.specs.Prelude.{if◌then◌else◌, nat_lt, ◌↔◌, IsNone}
use Rattle.std.specs.Option.{option_and_then}
use Rattle.std.proofs.Common.{◌≡◌, ℕ, ◌+◌, ◌-◌, ◌*◌, ◌/◌, ◌<◌, ◌≤◌, inl, inr, Bool, true, false, length, refl, ap, sym, ◌∙◌, arith, subst, Option, Some, None, ◌==◌}
use Rattle.std.proofs.lemmas.Bool.{cases_lt, cases_Bool, both_ways, eqb-true, eq-eqb, ne_eqb, lt-ltb, le-ltb}
use Rattle.bit_words.specs.Bits.{rank, select}
use Rattle.bit_words.proofs.Ranks.{rank_both}
use Rattle.bit_words.proofs.Finds.{find-none, least-find}
use Rattle.rank_select.proofs.Selects.{select-placed, selected_none}
use Rattle.parens.specs.Matching.{is_open}
use Rattle.code_laws.specs.Code.{Code, is_tree, is_first, parens, place, mate, component_count, start_of}
use Rattle.code_laws.specs.Numbers.{edge_of, node_of, ring_of, node_or_root, shell_or_outer, is_shell, enclosing_pair, tree_edges, first_of_edge, first_of_node, first_of_shell, opening_position, one_on, edge_count, node_count, shell_count}
use Rattle.code_laws.proofs.Sound.{SoundParts, whole, all_places, in_one}
use Rattle.code_laws.proofs.Mates.{first_at}
use Rattle.code_laws.proofs.Edges.{half, closed, first_edge, before_kind, edge_of_kind, edge_within, laws, second}
use Rattle.code_laws.proofs.Firsts.{root_first, node_first, shell_first}
use Rattle.code_laws.proofs.Numbered.{round_below}

some_none : (x : ℕ) → IsNone (Some x) → ⊥
some_none x h = cc

module _ (c : Code) (s : SoundParts c) where
  pub pairs : (kind : Bool) → rank true (parens c kind) (length (parens c kind)) ≡ length (parens c kind) / 2
  pairs kind = half (parens c kind) (whole c s kind)

  -- the position that opens a pair, where there is such a pair
  opening_there : (kind : Bool) (x : ℕ) → x < length (parens c kind) / 2 → (p : ℕ) × (opening_position c kind x ≡ Some p) × (p < length c.a) × (is_tree c p ≡ kind) × (is_first c p ≡ true) × (edge_of c p ≡ before_kind c kind + x)
  opening_there kind x l =
      let h = pairs kind in
      let q = select-placed true (parens c kind) x (omega (arith, l, h)) in
      let all = all_places c s.laid kind in
      let p = select-placed kind c.a q.0 (omega (arith, q.2.within, all)) in
      let opens : is_open (parens c kind) (place c kind p.0) ≡ true = subst (λ y. is_open (parens c kind) y ≡ true) (sym p.2.rank) q.2.kind in
      let chosen : opening_position c kind x ≡ Some p.0 = ap (option_and_then (select kind c.a)) q.1 ∙ p.1 in (
        p.0,
        chosen,
        p.2.within,
        p.2.kind,
        first_at c kind p.0 (place c kind p.0) p.2.kind refl ∙ opens,
        edge_of_kind c kind p.0 p.2.kind opens ∙ ap (λ y. before_kind c kind + rank true (parens c kind) y) p.2.rank ∙ ap (λ y. before_kind c kind + y) q.2.rank,
      )

  opening_none : (kind : Bool) (x : ℕ) → length (parens c kind) / 2 ≤ x → opening_position c kind x ≡ None
  opening_none kind x l = ap (option_and_then (select kind c.a)) (sym (selected_none true (parens c kind) x (let h = pairs kind in omega (arith, h, l))))

  sizes_even : (length c.tree / 2) * 2 + (length c.dual / 2) * 2 ≡ length c.a
  sizes_even =
      let ht = rank_both c.tree (length c.tree) (omega arith) in
      let hd = rank_both c.dual (length c.dual) (omega arith) in
      let ct = closed c.tree (whole c s true) in
      let cd = closed c.dual (whole c s false) in
      omega (arith, s.laid.sizes, ht, hd, ct, cd)

  no_edge : (e : ℕ) → length c.tree / 2 + length c.dual / 2 ≤ e → first_of_edge c e ≡ None
  unfolding first_of_edge
  no_edge e l = find-none (λ p. edge_of c p == e) 0 (length c.a) (λ p a b. ne_eqb _ _ (λ t. let w = edge_within c s p (omega arith) in let z = sizes_even in omega (arith, t, w, z, l)))

  pub tree_edge : (e : ℕ) → e < tree_edges c → first_of_edge c e ≡ opening_position c true e
  tree_edge e l =
      let o = opening_there true e l in
      let is : edge_of c o.0 ≡ e = o.5 ∙ omega arith in
      subst (λ x. first_of_edge c x ≡ Some o.0) is (first_edge c s o.0 o.2 o.4) ∙ sym o.1

  pub other_edge : (x : ℕ) → first_of_edge c (tree_edges c + x) ≡ opening_position c false x
  other_edge x =
      elim (cases_lt x (length c.dual / 2)) [
        | inl l ↦ let o = opening_there false x l in subst (λ e. first_of_edge c e ≡ Some o.0) o.5 (first_edge c s o.0 o.2 o.4) ∙ sym o.1
        | inr g ↦ no_edge (tree_edges c + x) (omega (arith, g)) ∙ sym (opening_none false x g)
      ]

  pub edge_by_select : (e : ℕ) → first_of_edge c e ≡ (if nat_lt e (tree_edges c) then opening_position c true e else opening_position c false (e - tree_edges c))
  edge_by_select e =
      elim (cases_lt e (tree_edges c)) [
        | inl l ↦ rw (lt-ltb e (tree_edges c) l) (tree_edge e l)
        | inr g ↦ rw (le-ltb e (tree_edges c) g) (let same : tree_edges c + (e - tree_edges c) ≡ e = omega (arith, g) in subst (λ y. first_of_edge c y ≡ opening_position c false (e - tree_edges c)) same (other_edge (e - tree_edges c)))
      ]

  node_below : (p : ℕ) → p < length c.a → (o : Option ℕ) → enclosing_pair c true p ≡ o → node_or_root c p o < component_count c + tree_edges c
  node_below p l None e = let i = in_one c s p l in omega (arith, i.1.is, i.1.count)
  node_below p l (Some x) e = let b = round_below c s true p x l e in let h = pairs true in omega (arith, b, h)

  -- each node is a root, or the one that a tree edge first reaches
  pub node_within : (p : ℕ) → p < length c.a → node_of c p < component_count c + tree_edges c
  unfolding node_of
  node_within p l = node_below p l (enclosing_pair c true p) refl

  no_node : (n : ℕ) → component_count c + tree_edges c ≤ n → first_of_node c n ≡ None
  unfolding first_of_node
  no_node n l = find-none (λ p. node_of c p == n) 0 (length c.a) (λ p a b. ne_eqb _ _ (λ t. let w = node_within p (omega arith) in omega (arith, t, w, l)))

  reached : (x : ℕ) → first_of_node c (component_count c + x) ≡ one_on (opening_position c true x)
  reached x =
      elim (cases_lt x (tree_edges c)) [
        | inl l ↦
            let o = opening_there true x l in
            node_first c s x o.0 l (tree_edge x l ∙ o.1) ∙ sym (ap one_on o.1)
        | inr g ↦ no_node (component_count c + x) (omega (arith, g)) ∙ sym (ap one_on (opening_none true x g))
      ]

  pub node_by_select : (n : ℕ) → first_of_node c n ≡ (if nat_lt n (component_count c) then Some (start_of c n) else one_on (opening_position c true (n - component_count c)))
  node_by_select n =
      elim (cases_lt n (component_count c)) [
        | inl l ↦ rw (lt-ltb n (component_count c) l) (root_first c s n l)
        | inr g ↦ rw (le-ltb n (component_count c) g) (let same : component_count c + (n - component_count c) ≡ n = omega (arith, g) in subst (λ y. first_of_node c y ≡ one_on (opening_position c true (n - component_count c))) same (reached (n - component_count c)))
      ]

  shell_below : (p x : ℕ) → p < length c.a → (o : Option ℕ) → enclosing_pair c false p ≡ o → length c.dual / 2 ≤ x → is_shell x (shell_or_outer c p o) ≡ false
  shell_below p x l None e g = refl
  shell_below p x l (Some y) e g = ne_eqb y x (λ t. let b = round_below c s false p y l e in let h = pairs false in omega (arith, b, h, t, g))

  no_shell : (x : ℕ) → length c.dual / 2 ≤ x → first_of_shell c x ≡ None
  unfolding first_of_shell ring_of
  no_shell x g = find-none (λ p. is_shell x (ring_of c p)) 0 (length c.a) (λ p a b. shell_below p x (omega arith) (enclosing_pair c false p) refl g)

  pub shell_by_select : (x : ℕ) → first_of_shell c x ≡ one_on (opening_position c false x)
  shell_by_select x =
      elim (cases_lt x (length c.dual / 2)) [
        | inl l ↦
            let o = opening_there false x l in
            shell_first c s x o.0 l (other_edge x ∙ o.1) ∙ sym (ap one_on o.1)
        | inr g ↦ no_shell x g ∙ sym (ap one_on (opening_none false x g))
      ]

  -- the first position of an edge has it, and opens it
  pub first_is : (e p : ℕ) → first_of_edge c e ≡ Some p → (p < length c.a) × (is_first c p ≡ true) × (edge_of c p ≡ e)
  unfolding first_of_edge
  first_is e p h =
      let l = least-find (λ q. edge_of c q == e) 0 (length c.a) p h in
      let p_in : p < length c.a = omega (arith, l.within) in
      let is = eqb-true _ _ l.passes in
      elim (cases_Bool (is_first c p)) [
        | inl f ↦ (p_in, f, is)
        | inr n ↦
            let g = laws c s p p_in in
            let before = second c s p p_in n in
            absurd (both_ways _ (l.before (mate c p) (omega arith) before) (eq-eqb _ _ (g.edge ∙ is)))
      ]

  -- None exactly from the count on
  opening_none-iff : (kind : Bool) (x : ℕ) → IsNone (opening_position c kind x) ↔ (length (parens c kind) / 2 ≤ x)
  opening_none-iff kind x =
      elim (cases_lt x (length (parens c kind) / 2)) [
        | inl l ↦
            let o = opening_there kind x l in
            (λ n. absurd (some_none o.0 (subst (λ (y : Option ℕ). IsNone y) o.1 n)), λ h. absurd (omega (arith, h, l)))
        | inr g ↦ (λ n. g, λ h. subst (λ (y : Option ℕ). IsNone y) (sym (opening_none kind x g)) refl)
      ]

  one_on-none : (o : Option ℕ) → IsNone (one_on o) ↔ IsNone o
  one_on-none None = (λ n. refl, λ n. refl)
  one_on-none (Some p) = (λ n. n, λ n. n)

  pub edge_none : (e : ℕ) → IsNone (first_of_edge c e) ↔ (edge_count c ≤ e)
  edge_none e =
      let z = sizes_even in
      elim (cases_lt e (tree_edges c)) [
        | inl l ↦
            let k = opening_none-iff true e in
            subst (λ (o : Option ℕ). IsNone o ↔ (edge_count c ≤ e)) (sym (tree_edge e l)) (λ n. let v = k.0 n in absurd (omega (arith, v, l)), λ h. absurd (omega (arith, h, z, l)))
        | inr g ↦
            let k = opening_none-iff false (e - tree_edges c) in
            let same : tree_edges c + (e - tree_edges c) ≡ e = omega (arith, g) in
            let at = subst (λ y. first_of_edge c y ≡ opening_position c false (e - tree_edges c)) same (other_edge (e - tree_edges c)) in
            subst (λ (o : Option ℕ). IsNone o ↔ (edge_count c ≤ e)) (sym at) (λ n. let v = k.0 n in omega (arith, v, z, g), λ h. k.1 (omega (arith, h, z, g)))
      ]

  pub node_none : (n : ℕ) → IsNone (first_of_node c n) ↔ (node_count c ≤ n)
  node_none n =
      elim (cases_lt n (component_count c)) [
        | inl l ↦ subst (λ (o : Option ℕ). IsNone o ↔ (node_count c ≤ n)) (sym (root_first c s n l)) (λ z. absurd (some_none (start_of c n) z), λ h. absurd (omega (arith, h, l)))
        | inr g ↦
            let x = n - component_count c in
            let k = opening_none-iff true x in
            let on = one_on-none (opening_position c true x) in
            let same : component_count c + x ≡ n = omega (arith, g) in
            let at = subst (λ y. first_of_node c y ≡ one_on (opening_position c true x)) same (reached x) in
            subst (λ (o : Option ℕ). IsNone o ↔ (node_count c ≤ n)) (sym at) (λ z. let v = k.0 (on.0 z) in omega (arith, v, g), λ h. on.1 (k.1 (omega (arith, h, g))))
      ]

  pub shell_none : (x : ℕ) → IsNone (first_of_shell c x) ↔ (shell_count c ≤ x)
  shell_none x =
      let k = opening_none-iff false x in
      let on = one_on-none (opening_position c false x) in
      subst (λ (o : Option ℕ). IsNone o ↔ (shell_count c ≤ x)) (sym (shell_by_select x)) (λ z. k.0 (on.0 z), λ h. on.1 (k.1 h))

  -- first positions are positions
  pub node_first-within : (n p : ℕ) → first_of_node c n ≡ Some p → p < length c.a
  unfolding first_of_node
  node_first-within n p h = let l = least-find (λ q. node_of c q == n) 0 (length c.a) p h in omega (arith, l.within)

  pub shell_first-within : (x p : ℕ) → first_of_shell c x ≡ Some p → p < length c.a
  unfolding first_of_shell
  shell_first-within x p h = let l = least-find (λ q. is_shell x (ring_of c q)) 0 (length c.a) p h in omega (arith, l.within)
