-- What a sound code gives the calls of its view.
use mathlib.Core.Bool.{beq}
use Rattle.std.specs.Prelude.{unwrap_or, if◌then◌else◌, IfSome, IsNone, ◌↔◌}
use Rattle.std.specs.Option.{option_and_then}
use Rattle.std.proofs.Common.{◌≡◌, ℕ, zero, suc, ◌+◌, ◌-◌, ◌*◌, ◌<◌, ◌≤◌, inl, inr, Bool, true, false, List, length, refl, ap, sym, ◌∙◌, arith, subst, Option, Some, None}
use Rattle.std.proofs.lemmas.Bool.{lt-ltb, le-ltb, cases_lt, both_ways}
use Rattle.bit_words.specs.Bits.{rank, select, same, IsSelected}
use Rattle.bit_words.specs.Digits.{digits}
use Rattle.bit_words.proofs.DigitLaws.{digits-halved, digits-mono}
use Rattle.bit_words.proofs.Ranks.{rank_both}
use Rattle.rank_select.proofs.Selects.{selected}
use Rattle.parens.specs.Matching.{is_open, mate_of, pair_number}
use Rattle.parens.proofs.Arcs.{arc-opens, arc-closes}
use Rattle.code_laws.specs.Code.{Code, is_tree, is_first, parens, place, mate, over, after, component_of, component_count, start_of, end_of}
use Rattle.code_laws.specs.Numbers.{edge_of, node_of, ring_of, node_or_root, shell_or_outer, enclosing_pair, tree_edges, first_of_edge, first_of_node, first_of_shell, opening_position, one_on, edge_count, node_count, shell_count}
use Rattle.code_laws.specs.SeqFault.{is_sound}
use Rattle.code_laws.specs.declared.ring_number.RingNumber.TheVariants.{Outer, Shell}
use Rattle.code_laws.proofs.Sound.{sound_parts, whole, mates, rises, start_within, places_within, in_one, is_component, first_start, last_start}
use Rattle.code_laws.proofs.Edges.{place_in, laws, edge_within}
use Rattle.code_laws.proofs.Apart.{number_round, number_past, number_end}
use Rattle.code_laws.proofs.Steps.{HasMate, Opens, Closes, pair-number}
use Rattle.code_laws.proofs.Mates.{first_at}
use Rattle.code_laws.proofs.Numbered.{round_below}
use Rattle.code_laws.proofs.Selects.{pairs, edge_by_select, node_by_select, edge_none, node_none, shell_none, shell_by_select, node_within, node_first-within, shell_first-within}

pub ruleset halving = (digits-halved, digits-mono)

-- the bit that a search found
pub chosen : (kind at : Bool) (bits : List Bool) (j : ℕ) (o : Option ℕ) → kind ≡ at → IsSelected at bits j o → o ≡ select kind bits j
chosen kind at bits j o e h = subst (λ k. o ≡ select k bits j) (sym e) (selected at bits j o h)

pub chosen_within : (at : Bool) (bits : List Bool) (j : ℕ) (o : Option ℕ) → IsSelected at bits j o → IfSome o (λ p. p < length bits)
chosen_within at bits j None h = tt
chosen_within at bits j (Some p) h = h.0

pub chosen_place : (kind at : Bool) (bits : List Bool) (j : ℕ) (o : Option ℕ) → kind ≡ at → IsSelected at bits j o → IfSome o (λ p. rank kind bits p ≡ j)
chosen_place kind at bits j None e h = tt
chosen_place kind at bits j (Some p) e h = ap (λ k. rank k bits p) e ∙ h.2

-- how many of the other kind stand before a position
pub others_before : (c : Code) (own kind : Bool) (q x : ℕ) → beq own kind ≡ false → q ≤ length c.a → x ≡ place c own q → (x ≤ q) × (q - x ≡ place c kind q)
others_before c true true q x h l e = cc
others_before c true false q x h l e = let b = rank_both c.a q l in (omega (arith, b, e), omega (arith, b, e))
others_before c false true q x h l e = let b = rank_both c.a q l in (omega (arith, b, e), omega (arith, b, e))
others_before c false false q x h l e = cc

-- the pair round the gap before a position, by its place
pub round_at : (c : Code) (kind : Bool) (p x : ℕ) → x ≡ place c kind p → number_round (parens c kind) x ≡ enclosing_pair c kind p
round_at c kind p x e = ap (number_round (parens c kind)) e ∙ sym (pair-number c kind p)

module _ (c : Code) (h : is_sound c ≡ true) where
  sizes : length c.tree + length c.dual ≡ length c.a
  sizes = (sound_parts c h).laid.sizes

  pub fewer : (kind : Bool) → length (parens c kind) ≤ length c.a
  fewer true = let e = sizes in omega (arith, e)
  fewer false = let e = sizes in omega (arith, e)

  pub digits_fewer : (kind : Bool) → digits (length (parens c kind) + 2) ≤ digits (length c.a + 2)
  digits_fewer kind = let f = fewer kind in digits-mono (length (parens c kind) + 2) (length c.a + 2) (omega (arith, f))

  pub place_le : (kind : Bool) (p : ℕ) → p ≤ length c.a → place c kind p ≤ length (parens c kind)
  place_le kind p l = places_within c (sound_parts c h).laid kind p l

  pub place_lt : (kind : Bool) (p : ℕ) → p < length c.a → is_tree c p ≡ kind → place c kind p < length (parens c kind)
  place_lt kind p l is = place_in c (sound_parts c h) kind p l is

  -- the position that stands where the mate's place is
  mate_at : (kind : Bool) (p : ℕ) → is_tree c p ≡ kind → mate c p ≡ unwrap_or (select kind c.a (mate_of (parens c kind) (place c kind p))) p
  unfolding mate
  mate_at kind p is = subst (λ k. unwrap_or (select k c.a (mate_of (parens c k) (place c k p))) p ≡ unwrap_or (select kind c.a (mate_of (parens c kind) (place c kind p))) p) (sym is) refl

  pub mate_found : (kind : Bool) (p q x m : ℕ) → is_tree c p ≡ kind → x ≡ place c kind p → m ≡ mate_of (parens c kind) x → Some q ≡ select kind c.a m → q ≡ mate c p
  mate_found kind p q x m is e f g =
      let at : Some q ≡ select kind c.a (mate_of (parens c kind) (place c kind p)) = g ∙ ap (select kind c.a) (f ∙ ap (mate_of (parens c kind)) e) in
      sym (mate_at kind p is ∙ ap (λ o. unwrap_or o p) (sym at))

  pub mate_there : (kind : Bool) (p x m : ℕ) → p < length c.a → is_tree c p ≡ kind → x ≡ place c kind p → m ≡ mate_of (parens c kind) x → None ≡ select kind c.a m → ⊥
  mate_there kind p x m l is e f g =
      let at : None ≡ select kind c.a (mate_of (parens c kind) (place c kind p)) = g ∙ ap (select kind c.a) (f ∙ ap (mate_of (parens c kind)) e) in
      (laws c (sound_parts c h) p l).other (mate_at kind p is ∙ ap (λ o. unwrap_or o p) (sym at))

  pub mate_within : (p : ℕ) → p < length c.a → mate c p < length c.a
  mate_within p l = (laws c (sound_parts c h) p l).within

  -- the mate of a position is in its component
  pub mate_component : (p : ℕ) → p < length c.a → component_of c (mate c p) ≡ component_of c p
  mate_component p l = (laws c (sound_parts c h) p l).component

  either_component : (p : ℕ) → p < length c.a → (mated : Bool) → component_of c (if mated then mate c p else p) ≡ component_of c p
  either_component p l true = mate_component p l
  either_component p l false = refl

  pub over_component : (kind : Bool) (p : ℕ) → p < length c.a → component_of c (over c kind p) ≡ component_of c p
  over_component kind p l = either_component p l (same kind (is_tree c p))

  -- each component has two positions, those of an edge
  two_positions : (j : ℕ) → j < component_count c → start_of c j + 2 ≤ end_of c j
  two_positions j l =
      let s = sound_parts c h in
      let up = rises c s.laid j l in
      let in_all = start_within c s.laid (j + 1) (omega (arith, l)) in
      let p_in : start_of c j < length c.a = omega (arith, up, in_all) in
      let m = laws c s (start_of c j) p_in in
      let i = in_one c s (mate c (start_of c j)) m.within in
      let same : i.0 ≡ j = sym i.1.is ∙ m.component ∙ is_component c s (start_of c j) j l (omega arith) up in
      let from : start_of c j ≤ mate c (start_of c j) = subst (λ x. start_of c x ≤ mate c (start_of c j)) same i.1.from in
      let to : mate c (start_of c j) < end_of c j = subst (λ x. mate c (start_of c j) < end_of c x) same i.1.to in
      let apart : (mate c (start_of c j) ≡ start_of c j) → ⊥ = m.other in
      elim (cases_lt (start_of c j) (mate c (start_of c j))) [
        | inl after ↦ omega (arith, after, to)
        | inr not_after ↦ absurd (apart (omega (arith, from, not_after)))
      ]

  pub starts_above : (j : ℕ) → j ≤ component_count c → 2 * j ≤ start_of c j
  starts_above zero l = omega arith
  starts_above (suc j) l =
      let less = starts_above j (omega arith) in
      let up = two_positions j (omega arith) in
      let e : start_of c (suc j) ≡ start_of c (j + 1) = ap (start_of c) (omega arith) in
      omega (arith, less, up, e)

  pub few_components : 2 * component_count c ≤ length c.a
  few_components =
      let k = component_count c in
      let up = starts_above k (omega arith) in
      let in_it = start_within c (sound_parts c h).laid k (omega arith) in
      omega (arith, up, in_it)

  pub component_there : (p : ℕ) → p < length c.a → 0 < component_count c
  component_there p l = let i = in_one c (sound_parts c h) p l in omega (arith, i.1.count)

  pub begins_at_zero : start_of c 0 ≡ 0
  begins_at_zero = first_start c (sound_parts c h).laid

  pub ends_with_all : start_of c (component_count c) ≡ length c.a
  ends_with_all = last_start c (sound_parts c h).laid

  pub component_found : (p low high : ℕ) → high ≡ low + 1 → high ≤ component_count c → start_of c low ≤ p → p < start_of c high → low ≡ component_of c p
  component_found p low high e l from to =
      sym (is_component c (sound_parts c h) p low (omega arith) from (subst (λ x. p < start_of c x) e to))

  -- where a position stands in its component
  pub stands : (p m : ℕ) → p < length c.a → m ≡ component_of c p → (start_of c m ≤ p) × (p < end_of c m) × (end_of c m ≤ length c.a)
  stands p m l e =
      let i = in_one c (sound_parts c h) p l in
      subst (λ x. (start_of c x ≤ p) × (p < end_of c x) × (end_of c x ≤ length c.a)) (sym i.1.is ∙ sym e) (i.1.from, i.1.to, i.1.within)

  pub first_found : (kind : Bool) (p x : ℕ) → is_tree c p ≡ kind → x ≡ place c kind p → is_open (parens c kind) x ≡ is_first c p
  first_found kind p x is e = sym (first_at c kind p x is (sym e))

  -- the number of an edge, by the number of its pair
  pub edge_found : (kind : Bool) (p x pair : ℕ) → is_tree c p ≡ kind → x ≡ place c kind p
      → pair ≡ rank true (parens c kind) (if is_open (parens c kind) x then x else mate_of (parens c kind) x)
      → (if kind then pair else tree_edges c + pair) ≡ edge_of c p
  unfolding edge_of pair_number
  edge_found true p x pair is e f = subst (λ k. pair ≡ (if k then rank true c.tree (if is_open c.tree (place c true p) then place c true p else mate_of c.tree (place c true p)) else tree_edges c + rank true c.dual (if is_open c.dual (place c false p) then place c false p else mate_of c.dual (place c false p)))) (sym is)
      (subst (λ y. pair ≡ rank true c.tree (if is_open c.tree y then y else mate_of c.tree y)) e f)
  edge_found false p x pair is e f = subst (λ k. tree_edges c + pair ≡ (if k then rank true c.tree (if is_open c.tree (place c true p) then place c true p else mate_of c.tree (place c true p)) else tree_edges c + rank true c.dual (if is_open c.dual (place c false p) then place c false p else mate_of c.dual (place c false p)))) (sym is)
      (ap (λ y. tree_edges c + y) (subst (λ y. pair ≡ rank true c.dual (if is_open c.dual y then y else mate_of c.dual y)) e f))

  pub edge_below : (p : ℕ) → p < length c.a → edge_of c p < edge_count c
  edge_below p l = let w = edge_within c (sound_parts c h) p l in omega (arith, w)

  -- the pair round the gap before a mate, by its own place: where that opens, and where it closes
  first_mate : (kind : Bool) (p m x : ℕ) → x ≡ place c kind p → is_open (parens c kind) x ≡ true → HasMate c kind p m → Some (rank true (parens c kind) x) ≡ enclosing_pair c kind (mate c p)
  first_mate kind p m x e opens (Opens q j arc k order inside) =
      ap (λ y. Some (rank true (parens c kind) y)) e
      ∙ sym (ap (enclosing_pair c kind) k.is_mate ∙ pair-number c kind q ∙ ap (number_round (parens c kind)) k.at_place
      ∙ number_end (parens c kind) (whole c (sound_parts c h) kind) (place c kind p) j arc)
  first_mate kind p m x e opens (Closes q i arc k order from) =
      absurd (both_ways _ (arc-closes (parens c kind) i (place c kind p) arc) (ap (is_open (parens c kind)) (sym e) ∙ opens))

  later_mate : (kind : Bool) (p m x : ℕ) → x ≡ place c kind p → is_open (parens c kind) x ≡ false → HasMate c kind p m → number_round (parens c kind) (x + 1) ≡ enclosing_pair c kind (mate c p)
  later_mate kind p m x e closes (Closes q i arc k order from) =
      ap (λ y. number_round (parens c kind) (y + 1)) e
      ∙ number_past (parens c kind) (whole c (sound_parts c h) kind) i (place c kind p) arc
      ∙ sym (ap (enclosing_pair c kind) k.is_mate ∙ pair-number c kind q ∙ ap (number_round (parens c kind)) k.at_place)
  later_mate kind p m x e closes (Opens q j arc k order inside) =
      absurd (both_ways _ (ap (is_open (parens c kind)) (sym e) ∙ closes) (arc-opens (parens c kind) (place c kind p) j arc))

  pub mate_of_open : (kind : Bool) (p x : ℕ) → p < length c.a → is_tree c p ≡ kind → x ≡ place c kind p → is_open (parens c kind) x ≡ true → Some (rank true (parens c kind) x) ≡ enclosing_pair c kind (mate c p)
  mate_of_open kind p x l is e opens =
      let s = sound_parts c h in
      let i = in_one c s p l in
      first_mate kind p i.0 x e opens (mates c s kind p i.0 i.1 is)

  pub mate_of_closed : (kind : Bool) (p x : ℕ) → p < length c.a → is_tree c p ≡ kind → x ≡ place c kind p → is_open (parens c kind) x ≡ false → number_round (parens c kind) (x + 1) ≡ enclosing_pair c kind (mate c p)
  mate_of_closed kind p x l is e closes =
      let s = sound_parts c h in
      let i = in_one c s p l in
      later_mate kind p i.0 x e closes (mates c s kind p i.0 i.1 is)

  pub node_found : (p pair : ℕ) → Some pair ≡ enclosing_pair c true p → component_count c + pair ≡ node_of c p
  unfolding node_of
  node_found p pair e = ap (node_or_root c p) e

  pub root_found : (p : ℕ) → None ≡ enclosing_pair c true p → component_of c p ≡ node_of c p
  unfolding node_of
  root_found p e = ap (node_or_root c p) e

  pub shell_found : (p pair : ℕ) → Some pair ≡ enclosing_pair c false p → Shell pair ≡ ring_of c p
  unfolding ring_of
  shell_found p pair e = ap (shell_or_outer c p) e

  pub outer_found : (p : ℕ) → None ≡ enclosing_pair c false p → Outer (component_of c p) ≡ ring_of c p
  unfolding ring_of
  outer_found p e = ap (shell_or_outer c p) e

  pub pair_below : (kind : Bool) (p pair : ℕ) → p < length c.a → Some pair ≡ enclosing_pair c kind p → pair < length c.a
  pair_below kind p pair l e =
      let s = sound_parts c h in
      let b = round_below c s kind p pair l (sym e) in
      let m = pairs c s kind in
      let f = fewer kind in
      omega (arith, b, m, f)

  pub node_below : (p : ℕ) → p < length c.a → node_of c p < node_count c
  node_below p l = node_within c (sound_parts c h) p l

  -- the place that opens a pair, and its position
  pub opening_found : (kind : Bool) (pair place : ℕ) (o : Option ℕ) → Some place ≡ select true (parens c kind) pair → o ≡ select kind c.a place → o ≡ opening_position c kind pair
  opening_found kind pair place o e f = f ∙ ap (option_and_then (select kind c.a)) e

  pub opening_missing : (kind : Bool) (pair : ℕ) → None ≡ select true (parens c kind) pair → None ≡ opening_position c kind pair
  opening_missing kind pair e = ap (option_and_then (select kind c.a)) e

  pub edge_first : (e : ℕ) → e < tree_edges c → opening_position c true e ≡ first_of_edge c e
  edge_first e l = sym (subst (λ b. first_of_edge c e ≡ (if b then opening_position c true e else opening_position c false (e - tree_edges c))) (lt-ltb e (tree_edges c) l) (edge_by_select c (sound_parts c h) e))

  pub edge_later : (e : ℕ) → tree_edges c ≤ e → opening_position c false (e - tree_edges c) ≡ first_of_edge c e
  edge_later e l = sym (subst (λ b. first_of_edge c e ≡ (if b then opening_position c true e else opening_position c false (e - tree_edges c))) (le-ltb e (tree_edges c) l) (edge_by_select c (sound_parts c h) e))

  pub edge_missing : (e : ℕ) (o : Option ℕ) → o ≡ first_of_edge c e → IsNone o ↔ (edge_count c ≤ e)
  edge_missing e o f = subst (λ (x : Option ℕ). IsNone x ↔ (edge_count c ≤ e)) (sym f) (edge_none c (sound_parts c h) e)

  pub root_first : (n : ℕ) → n < component_count c → Some (start_of c n) ≡ first_of_node c n
  root_first n l = sym (subst (λ b. first_of_node c n ≡ (if b then Some (start_of c n) else one_on (opening_position c true (n - component_count c)))) (lt-ltb n (component_count c) l) (node_by_select c (sound_parts c h) n))

  pub node_first : (n : ℕ) → component_count c ≤ n → one_on (opening_position c true (n - component_count c)) ≡ first_of_node c n
  node_first n l = sym (subst (λ b. first_of_node c n ≡ (if b then Some (start_of c n) else one_on (opening_position c true (n - component_count c)))) (le-ltb n (component_count c) l) (node_by_select c (sound_parts c h) n))

  pub node_missing : (n : ℕ) (o : Option ℕ) → o ≡ first_of_node c n → IsNone o ↔ (node_count c ≤ n)
  node_missing n o f = subst (λ (x : Option ℕ). IsNone x ↔ (node_count c ≤ n)) (sym f) (node_none c (sound_parts c h) n)

  pub shell_first : (x : ℕ) → one_on (opening_position c false x) ≡ first_of_shell c x
  shell_first x = sym (shell_by_select c (sound_parts c h) x)

  pub shell_missing : (x : ℕ) (o : Option ℕ) → o ≡ first_of_shell c x → IsNone o ↔ (shell_count c ≤ x)
  shell_missing x o f = subst (λ (y : Option ℕ). IsNone y ↔ (shell_count c ≤ x)) (sym f) (shell_none c (sound_parts c h) x)

  pub node_inside : (n : ℕ) (o : Option ℕ) → o ≡ first_of_node c n → IfSome o (λ p. p < length c.a)
  node_inside n None f = tt
  node_inside n (Some p) f = node_first-within c (sound_parts c h) n p (sym f)

  pub shell_inside : (x : ℕ) (o : Option ℕ) → o ≡ first_of_shell c x → IfSome o (λ p. p < length c.a)
  shell_inside x None f = tt
  shell_inside x (Some p) f = shell_first-within c (sound_parts c h) x p (sym f)

  -- a component begins within the code
  pub start_inside : (n : ℕ) → n < component_count c → start_of c n < length c.a
  start_inside n l = node_first-within c (sound_parts c h) n (start_of c n) (sym (root_first n l))

  -- the ring of a position is one of the code
  pub shell_below : (p pair : ℕ) → p < length c.a → Some pair ≡ enclosing_pair c false p → pair < shell_count c
  shell_below p pair l e = let s = sound_parts c h in let b = round_below c s false p pair l (sym e) in let m = pairs c s false in omega (arith, b, m)

  -- the number of a pair round a gap before a position
  pub pair_small : (kind : Bool) (p : ℕ) (o : Option ℕ) → p < length c.a → o ≡ enclosing_pair c kind p → IfSome o (λ n. n < length c.a)
  pair_small kind p None l e = tt
  pair_small kind p (Some pair) l e = pair_below kind p pair l e

  pub shell_small : (p : ℕ) (o : Option ℕ) → p < length c.a → o ≡ enclosing_pair c false p → IfSome o (λ n. n < shell_count c)
  shell_small p None l e = tt
  shell_small p (Some pair) l e = shell_below p pair l e
