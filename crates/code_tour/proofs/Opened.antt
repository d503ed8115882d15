-- What passing a position does to the pairs round the gap, and what the innermost of them says.
use Rattle.std.specs.Prelude.{not, map, take}
use Rattle.std.proofs.Common.{◌≡◌, ℕ, ◌+◌, ◌/◌, ◌<◌, ◌≤◌, ◌⊎◌, inl, inr, Bool, true, false, List, [], ◌∷◌, ◌++◌, length, refl, ap, sym, ◌∙◌, arith, subst, Option, IsTrue}
use Rattle.std.proofs.lemmas.Bool.{cases_lt}
use Rattle.std.proofs.lemmas.List.{length_push, same_from_push}
use Rattle.bit_words.specs.Bits.{rank}
use Rattle.bit_words.proofs.Ranks.{rank-le, rank-le-rank, rank-zero}
use Rattle.parens.specs.Matching.{is_open, pair_number, innermost}
use Rattle.code_laws.specs.Code.{Code, is_tree, is_first, parens, place, component_count, start_of}
use Rattle.code_laws.specs.Numbers.{enclosing_pair}
use Rattle.code_laws.specs.Enclosing.{enclosing_places, enclosing_numbers, IsLastOf}
use Rattle.code_laws.specs.SeqFault.{is_sound}
use Rattle.code_laws.proofs.Places.{place_next, place_other}
use Rattle.code_laws.proofs.Sound.{sound_parts, whole, first_start, last_start}
use Rattle.code_laws.proofs.Mates.{first_at}
use Rattle.code_laws.proofs.Selects.{pairs}
use Rattle.code_laws.proofs.Stacks.{numbers-open, numbers-close, numbers-innermost}
use Rattle.turan_code.specs.Numbering.{HaveBegun}
use Rattle.turan_code.proofs.Numbered.{one_last}
use Rattle.turan_code.proofs.Views.{place_lt}
use Rattle.code_tour.specs.OpenPairs.{open_numbers, room_of, Passes}
use Rattle.code_tour.specs.Gap.{AreOpen, HasBegun}
use Rattle.code_tour.specs.declared.open_pairs.OpenPairs.{OpenPairs}

-- no pair is round the first gap
pub none_open : (c : Code) (kind : Bool) (round : OpenPairs) → open_numbers round ≡ [] → round.depth ≡ 0 → round.opened ≡ 0 → round.place ≡ 0 → length (parens c kind) / 2 ≤ room_of round → AreOpen c kind 0 round
unfolding enclosing_numbers
none_open c kind round n d o p room =
    let e = rank-zero kind c.a in
    record {
      numbers = n ∙ ap (λ i. map (rank true (parens c kind)) (enclosing_places (parens c kind) i)) (sym e);
      opened = o ∙ sym (ap (rank true (parens c kind)) e ∙ rank-zero true (parens c kind));
      place = p ∙ sym e;
      few = omega (arith, d);
      room = room;
    }

module _ (c : Code) (h : is_sound c ≡ true) where
  module _ (kind : Bool) (p : ℕ) (l : p < length c.a) where
    -- the pairs of a kind where the position is of the other one
    pub same_open : (round : OpenPairs) → is_tree c p ≡ not kind → AreOpen c kind p round → AreOpen c kind (p + 1) round
    same_open round is r =
        let e = place_other c kind p l is in
        record {
          numbers = r.numbers ∙ ap (enclosing_numbers (parens c kind)) (sym e);
          opened = r.opened ∙ ap (rank true (parens c kind)) (sym e);
          place = r.place ∙ sym e;
          few = r.few;
          room = r.room;
        }

    pub few_opened : (round : OpenPairs) → length c.a ≤ 2147483647 → AreOpen c kind p round → round.opened < 2147483648
    few_opened round few r = omega (arith, few, l, r.opened, rank-le true (parens c kind) (place c kind p), rank-le kind c.a p)

    pub few_before : (round : OpenPairs) → length c.a ≤ 2147483647 → AreOpen c kind p round → round.place < 2147483648
    few_before round few r = omega (arith, few, l, r.place, rank-le kind c.a p)

    module _ (is : is_tree c p ≡ kind) where
      pub opens_at : (first : Bool) (i : ℕ) → i ≡ place c kind p → is_open (parens c kind) i ≡ first → is_first c p ≡ first
      opens_at first i at o = first_at c kind p (place c kind p) is refl ∙ ap (is_open (parens c kind)) (sym at) ∙ o

      opened_there : (first : Bool) → is_first c p ≡ first → is_open (parens c kind) (place c kind p) ≡ first
      opened_there first f = sym (first_at c kind p (place c kind p) is refl) ∙ f

      -- there is room for one pair more
      pub room_there : (round : OpenPairs) → is_first c p ≡ true → AreOpen c kind p round → round.depth < room_of round
      room_there round f r =
          let bits = parens c kind in
          let i = place c kind p in
          let in_it = place_lt c h kind p l is in
          let n = numbers-open bits (whole c (sound_parts c h) kind) i in_it (opened_there true f) in
          let below = rank-le-rank true bits (i + 1) (length bits) (omega (arith, in_it)) in
          let half = pairs c (sound_parts c h) kind in
          omega (arith, r.few, r.opened, r.room, n.2, below, half)

      -- a pair is open where the position is the second of its edge
      pub some_open : (first : Bool) (round : OpenPairs) → round.depth ≤ room_of round → is_first c p ≡ first → AreOpen c kind p round → IsTrue first ⊎ (0 < round.depth)
      some_open true round w f r = inl refl
      some_open false round w f r =
          let bits = parens c kind in
          let i = place c kind p in
          let n = numbers-close bits (whole c (sound_parts c h) kind) i (place_lt c h kind p l is) (opened_there false f) in
          elim (cases_lt 0 round.depth) [
            | inl some ↦ inr some
            | inr none ↦
                let zero : round.depth ≡ 0 = omega (arith, none) in
                let empty = ap (λ d. take d round.numbers.words.now) zero in
                absurd (omega (arith, ap length (sym empty ∙ r.numbers ∙ n.0), length_push (enclosing_numbers bits (i + 1)) (pair_number bits i)))
          ]

      -- the pairs after the position, and the number of its pair
      pub passed : (first : Bool) (before after : OpenPairs) (number : ℕ) → is_first c p ≡ first → AreOpen c kind p before → Passes first before after number → room_of after ≡ room_of before → after.place ≡ before.place + 1
          → AreOpen c kind (p + 1) after × (number ≡ pair_number (parens c kind) (place c kind p))
      passed true before after number f r s room at =
          let bits = parens c kind in
          let i = place c kind p in
          let next = place_next c kind p l is in
          let n = numbers-open bits (whole c (sound_parts c h) kind) i (place_lt c h kind p l is) (opened_there true f) in
          let number_is : number ≡ rank true bits i = s.0 ∙ r.opened in (
            record {
              numbers = s.1 ∙ ap (λ xs. xs ++ number ∷ []) r.numbers ∙ ap (λ x. enclosing_numbers bits i ++ x ∷ []) number_is ∙ sym n.0 ∙ ap (enclosing_numbers bits) (sym next);
              opened = s.2 ∙ ap (λ x. x + 1) r.opened ∙ sym n.2 ∙ ap (rank true bits) (sym next);
              place = at ∙ ap (λ x. x + 1) r.place ∙ sym next;
              few = omega (arith, r.few, s.2, s.3);
              room = omega (arith, r.room, room);
            },
            number_is ∙ sym n.1,
          )
      passed false before after number f r s room at =
          let bits = parens c kind in
          let i = place c kind p in
          let next = place_next c kind p l is in
          let n = numbers-close bits (whole c (sound_parts c h) kind) i (place_lt c h kind p l is) (opened_there false f) in
          let left = same_from_push (open_numbers after) (enclosing_numbers bits (i + 1)) number (pair_number bits i) (sym s.0 ∙ r.numbers ∙ n.0) in (
            record {
              numbers = left.0 ∙ ap (enclosing_numbers bits) (sym next);
              opened = s.1 ∙ r.opened ∙ sym n.1 ∙ ap (rank true bits) (sym next);
              place = at ∙ ap (λ x. x + 1) r.place ∙ sym next;
              few = omega (arith, r.few, s.1, s.2);
              room = omega (arith, r.room, room);
            },
            left.1,
          )

  -- the pair that the last number is of
  pair_last : (kind : Bool) (p : ℕ) → IsLastOf (enclosing_numbers (parens c kind) (place c kind p)) (enclosing_pair c kind p)
  unfolding enclosing_pair
  pair_last kind p = numbers-innermost (parens c kind) (whole c (sound_parts c h) kind) (place c kind p) (innermost (parens c kind) (place c kind p)) refl

  pub innermost_is : (kind : Bool) (p : ℕ) (round : OpenPairs) (o : Option ℕ) → AreOpen c kind p round → IsLastOf (open_numbers round) o → o ≡ enclosing_pair c kind p
  innermost_is kind p round o r s = one_last _ o (enclosing_pair c kind p) (subst (λ (xs : List ℕ). IsLastOf xs o) r.numbers s) (pair_last kind p)

  -- nothing has begun before the first position
  pub none_begun : HasBegun c 0 (record { count = 0; next = 0 })
  none_begun =
      record {
        count = record { within = omega arith; next = omega arith; last = λ n. absurd (omega (arith, n)); none = λ n. refl };
        next = sym (first_start c (sound_parts c h).laid);
      }

  -- a component that begins at a position is one of those that there are
  pub next_start_within : (p begun : ℕ) → p < length c.a → HaveBegun c p begun → start_of c begun ≡ p → begun + 1 < length c.starts
  next_start_within p begun l b e =
      elim (cases_lt begun (component_count c)) [
        | inl m ↦ omega (arith, m)
        | inr m ↦
            let all : begun ≡ component_count c = omega (arith, m, b.within) in
            let end = ap (start_of c) all ∙ last_start c (sound_parts c h).laid in
            absurd (omega (arith, end, e, l))
      ]
