-- What passing a position does to the pairs round the gap, and how many components have begun.
use Rattle.std.specs.Prelude.{not, map, OnOk}
use Rattle.std.specs.List.{range_with_len}
use Rattle.std.proofs.Common.{◌≡◌, ◌≢◌, ℕ, ◌+◌, ◌-◌, ◌<◌, ◌≤◌, ◌⊎◌, inl, inr, Bool, true, false, List, [], ◌∷◌, ◌++◌, length, refl, ap, sym, ◌∙◌, arith, subst, Option, Some, None, Result, Ok, Err, IfOk, IsTrue}
use Rattle.std.proofs.lemmas.Bool.{cases_lt}
use Rattle.std.proofs.lemmas.List.{length_push, same_from_push}
use Rattle.std.proofs.lemmas.List.FromFn.{map-range_with_len_more}
use Rattle.bit_words.specs.Bits.{rank}
use Rattle.bit_words.proofs.Ranks.{rank-le, rank-zero}
use Rattle.bit_words.specs.declared.memory.Memory.{Memory}
use Rattle.parens.specs.Matching.{is_open, pair_number, innermost}
use Rattle.code_laws.specs.Code.{Code, is_tree, is_first, parens, place, component_of, component_count, start_of}
use Rattle.code_laws.specs.Numbers.{tree_edges, edge_of, node_of, ring_of, enclosing_pair}
use Rattle.code_laws.specs.Enclosing.{enclosing_places, enclosing_numbers, IsLastOf}
use Rattle.code_laws.specs.SeqFault.{is_sound}
use Rattle.code_laws.specs.Tour.{ring_code}
use Rattle.code_laws.proofs.Places.{place_next, place_other}
use Rattle.code_laws.proofs.Sound.{sound_parts, whole, rises, first_start, last_start, is_component, in_one}
use Rattle.code_laws.proofs.Mates.{first_at}
use Rattle.code_laws.proofs.Stacks.{numbers-open, numbers-close, numbers-innermost}
use Rattle.turan_code.specs.declared.numbering.OpenPairs.{OpenPairs}
use Rattle.turan_code.specs.declared.numbering.Gap.{Gap}
use Rattle.turan_code.specs.declared.numbering.Numbers.{Numbers}
use Rattle.turan_code.specs.declared.numbering.CodeNumbering.{CodeNumbering}
use Rattle.turan_code.specs.Numbering.{Passes, AreEnclosing, HaveBegun, IsGap, AreNumbersAt, HasLists}
use Rattle.turan_code.proofs.Views.{place_lt}

-- a list has one last number, or none
pub one_last : (xs : List ℕ) (o r : Option ℕ) → IsLastOf xs o → IsLastOf xs r → o ≡ r
one_last xs None None h k = refl
one_last xs None (Some y) h k = absurd (omega (arith, ap length (sym h ∙ k.1), length_push k.0 y))
one_last xs (Some x) None h k = absurd (omega (arith, ap length (sym k ∙ h.1), length_push h.0 x))
one_last xs (Some x) (Some y) h k = ap Some (same_from_push h.0 k.0 x y (sym h.1 ∙ k.1)).1

added : (f : ℕ → ℕ) (p x : ℕ) (before after : List ℕ) → before ≡ map f (range_with_len 0 p) → x ≡ f p → after ≡ before ++ x ∷ [] → after ≡ map f (range_with_len 0 (p + 1))
added f p x before after b e a = a ∙ ap (λ xs. xs ++ x ∷ []) b ∙ ap (λ y. map f (range_with_len 0 p) ++ y ∷ []) e ∙ sym (map-range_with_len_more f 0 p p (omega arith))

-- a numbering of the positions before p
abbrev pub AreNumberedTo : Code → ℕ → CodeNumbering → Type 0
AreNumberedTo c p = HasLists (map (edge_of c) (range_with_len 0 p)) (map (node_of c) (range_with_len 0 p)) (map (λ q. ring_code (ring_of c q)) (range_with_len 0 p))

pub one_more : (c : Code) (p : ℕ) (before after : CodeNumbering) (numbers : Numbers) → AreNumberedTo c p before → AreNumbersAt c p numbers
    → HasLists (before.edge.items ++ numbers.edge ∷ []) (before.node.items ++ numbers.node ∷ []) (before.ring.items ++ numbers.ring ∷ []) after → AreNumberedTo c (p + 1) after
one_more c p before after numbers b n a =
    record {
      edge = added (edge_of c) p numbers.edge before.edge.items after.edge.items b.edge n.edge a.edge;
      node = added (node_of c) p numbers.node before.node.items after.node.items b.node n.node a.node;
      ring = added (λ q. ring_code (ring_of c q)) p numbers.ring before.ring.items after.ring.items b.ring n.ring a.ring;
    }

-- no pair is round the first gap, and nothing has begun there
none_round : (c : Code) (kind : Bool) (pairs : OpenPairs) → pairs.numbers.items ≡ [] → pairs.opened ≡ 0 → AreEnclosing c kind 0 pairs
unfolding enclosing_numbers
none_round c kind pairs n o =
    let e = rank-zero kind c.a in
    record {
      numbers = n ∙ ap (λ i. map (rank true (parens c kind)) (enclosing_places (parens c kind) i)) (sym e);
      opened = o ∙ sym (ap (rank true (parens c kind)) e ∙ rank-zero true (parens c kind));
    }

pub first_gap : (c : Code) (gap : Gap) → (gap.tree.numbers.items ≡ []) × (gap.tree.opened ≡ 0) → (gap.dual.numbers.items ≡ []) × (gap.dual.opened ≡ 0) → gap.begun ≡ 0 → IsGap c 0 gap
first_gap c gap t d b =
    record {
      tree = none_round c true gap.tree t.0 t.1;
      dual = none_round c false gap.dual d.0 d.1;
      begun = record {
        within = omega (arith, b);
        next = omega arith;
        last = λ n. absurd (omega (arith, n, b));
        none = λ n. refl;
      };
    }

module _ (c : Code) (h : is_sound c ≡ true) where
  -- a component begins with the position
  pub begins : (p begun : ℕ) → p < length c.a → HaveBegun c p begun → start_of c begun ≡ p → HaveBegun c (p + 1) (begun + 1) × (component_of c p ≡ begun)
  begins p begun l b e =
      let laid = (sound_parts c h).laid in
      let count : begun < component_count c =
      elim (cases_lt begun (component_count c)) [
        | inl m ↦ m
        | inr m ↦
            let all : begun ≡ component_count c = omega (arith, m, b.within) in
            let end = ap (start_of c) all ∙ last_start c laid in
            absurd (omega (arith, end, e, l))
      ] in
      let up = rises c laid begun count in (
        record {
          within = omega (arith, count);
          next = omega (arith, up, e);
          last = λ n. let f : start_of c (begun + 1 - 1) ≡ start_of c begun = ap (start_of c) (omega arith) in omega (arith, f, e);
          none = λ n. absurd (omega (arith, n));
        },
        is_component c (sound_parts c h) p begun count (omega (arith, e)) (omega (arith, up, e)),
      )

  -- no component begins with the position
  pub goes_on : (p begun : ℕ) → p < length c.a → HaveBegun c p begun → start_of c begun ≢ p → HaveBegun c (p + 1) begun × (component_of c p + 1 ≡ begun)
  goes_on p begun l b other =
      let laid = (sound_parts c h).laid in
      let some : 1 ≤ begun =
      elim (cases_lt 0 begun) [
        | inl m ↦ omega (arith, m)
        | inr m ↦ let none : begun ≡ 0 = omega (arith, m) in absurd (other (ap (start_of c) none ∙ first_start c laid ∙ sym (b.none none)))
      ] in
      let from = b.last some in
      let to : p < start_of c begun = omega (arith, b.next, other) in
      let e : start_of c (begun - 1 + 1) ≡ start_of c begun = ap (start_of c) (omega (arith, some)) in
      let in_it = is_component c (sound_parts c h) p (begun - 1) (omega (arith, some, b.within)) (omega (arith, from)) (omega (arith, to, e)) in (
        record {
          within = b.within;
          next = omega (arith, to);
          last = λ n. omega (arith, from);
          none = λ n. absurd (omega (arith, n, some));
        },
        omega (arith, in_it, some),
      )

  module _ (kind : Bool) (p : ℕ) (l : p < length c.a) where
    -- the pairs of a kind where the position is of the other one
    pub same_round : (pairs : OpenPairs) → is_tree c p ≡ not kind → AreEnclosing c kind p pairs → AreEnclosing c kind (p + 1) pairs
    same_round pairs is r =
        let e = place_other c kind p l is in
        record {
          numbers = r.numbers ∙ ap (enclosing_numbers (parens c kind)) (sym e);
          opened = r.opened ∙ ap (rank true (parens c kind)) (sym e);
        }

    pub room : (pairs : OpenPairs) → length c.a ≤ 2147483647 → AreEnclosing c kind p pairs → pairs.opened < 4294967295
    room pairs few r = omega (arith, few, l, r.opened, rank-le true (parens c kind) (place c kind p), rank-le kind c.a p)

    module _ (is : is_tree c p ≡ kind) where
      opens_at : (first : Bool) → is_first c p ≡ first → is_open (parens c kind) (place c kind p) ≡ first
      opens_at first f = sym (first_at c kind p (place c kind p) is refl) ∙ f

      -- a pair is open where the position is the second of its edge
      pub some_round : (first : Bool) (pairs : OpenPairs) → is_first c p ≡ first → AreEnclosing c kind p pairs → IsTrue first ⊎ (0 < length pairs.numbers.items)
      some_round true pairs f r = inl refl
      some_round false pairs f r =
          let bits = parens c kind in
          let i = place c kind p in
          let n = numbers-close bits (whole c (sound_parts c h) kind) i (place_lt c h kind p l is) (opens_at false f) in
          inr (omega (arith, ap length (r.numbers ∙ n.0), length_push (enclosing_numbers bits (i + 1)) (pair_number bits i)))

      -- the pairs after the position, and the number of its pair
      pub passed : (first : Bool) (before after : OpenPairs) (number : ℕ) → is_first c p ≡ first → AreEnclosing c kind p before → Passes first before after number
          → AreEnclosing c kind (p + 1) after × (number ≡ pair_number (parens c kind) (place c kind p))
      passed true before after number f r s =
          let bits = parens c kind in
          let i = place c kind p in
          let next = place_next c kind p l is in
          let n = numbers-open bits (whole c (sound_parts c h) kind) i (place_lt c h kind p l is) (opens_at true f) in
          let number_is : number ≡ rank true bits i = s.0 ∙ r.opened in (
            record {
              numbers = s.1 ∙ ap (λ xs. xs ++ number ∷ []) r.numbers ∙ ap (λ x. enclosing_numbers bits i ++ x ∷ []) number_is ∙ sym n.0 ∙ ap (enclosing_numbers bits) (sym next);
              opened = s.2 ∙ ap (λ x. x + 1) r.opened ∙ sym n.2 ∙ ap (rank true bits) (sym next);
            },
            number_is ∙ sym n.1,
          )
      passed false before after number f r s =
          let bits = parens c kind in
          let i = place c kind p in
          let next = place_next c kind p l is in
          let n = numbers-close bits (whole c (sound_parts c h) kind) i (place_lt c h kind p l is) (opens_at false f) in
          let left = same_from_push after.numbers.items (enclosing_numbers bits (i + 1)) number (pair_number bits i) (sym s.0 ∙ r.numbers ∙ n.0) in (
            record {
              numbers = left.0 ∙ ap (enclosing_numbers bits) (sym next);
              opened = s.1 ∙ r.opened ∙ sym n.1 ∙ ap (rank true bits) (sym next);
            },
            left.1,
          )

      pub passed_if : (first : Bool) (before after : OpenPairs) (r : Result ℕ Memory) → is_first c p ≡ first → AreEnclosing c kind p before → IfOk r (Passes first before after)
          → OnOk r (AreEnclosing c kind (p + 1) after) × IfOk r (λ number. number ≡ pair_number (parens c kind) (place c kind p))
      passed_if first before after (Ok number) f r s = passed first before after number f r s
      passed_if first before after (Err e) f r s = (tt, tt)

  -- the number of an edge by that of its pair
  pub tree_edge_is : (p : ℕ) → is_tree c p ≡ true → pair_number c.tree (place c true p) ≡ edge_of c p
  unfolding edge_of
  tree_edge_is p is = rw is refl

  pub other_edge_is : (p : ℕ) → is_tree c p ≡ false → tree_edges c + pair_number c.dual (place c false p) ≡ edge_of c p
  unfolding edge_of
  other_edge_is p is = rw is refl

  pub tree_edge_if : (p : ℕ) (r : Result ℕ Memory) → is_tree c p ≡ true → IfOk r (λ number. number ≡ pair_number c.tree (place c true p)) → IfOk r (λ edge. edge ≡ edge_of c p)
  tree_edge_if p (Ok number) is e = e ∙ tree_edge_is p is
  tree_edge_if p (Err e) is h = tt

  pub same_round_if : (kind : Bool) (p : ℕ) (pairs : OpenPairs) (r : Result ℕ Memory) → p < length c.a → is_tree c p ≡ not kind → AreEnclosing c kind p pairs → OnOk r (AreEnclosing c kind (p + 1) pairs)
  same_round_if kind p pairs (Ok number) l is h = same_round kind p l pairs is h
  same_round_if kind p pairs (Err e) l is h = tt

  -- the pair that the last number is of
  pair_last : (kind : Bool) (p : ℕ) → IsLastOf (enclosing_numbers (parens c kind) (place c kind p)) (enclosing_pair c kind p)
  unfolding enclosing_pair
  pair_last kind p = numbers-innermost (parens c kind) (whole c (sound_parts c h) kind) (place c kind p) (innermost (parens c kind) (place c kind p)) refl

  pub innermost_is : (kind : Bool) (p : ℕ) (pairs : OpenPairs) (o : Option ℕ) → AreEnclosing c kind p pairs → IsLastOf pairs.numbers.items o → o ≡ enclosing_pair c kind p
  innermost_is kind p pairs o r s = one_last _ o (enclosing_pair c kind p) (subst (λ (xs : List ℕ). IsLastOf xs o) r.numbers s) (pair_last kind p)

  pub component_below : (p : ℕ) → p < length c.a → component_of c p < component_count c
  component_below p l = let i = in_one c (sound_parts c h) p l in omega (arith, i.1.count, i.1.is)
