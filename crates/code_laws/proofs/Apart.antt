-- The numbers of the innermost pairs round the gaps beside an arc.
use Rattle.std.specs.Prelude.{pos, option_map}
use Rattle.std.proofs.Common.{◌≡◌, ℕ, ◌+◌, ◌<◌, ◌≤◌, inl, inr, Bool, true, false, List, length, refl, ap, arith, subst, Option, Some, None}
use Rattle.std.proofs.lemmas.Bool.{cases_lt, and_parts, ne_eqb, false_from_ne_true, both_ways}
use Rattle.std.proofs.lemmas.Int.{ints}
use Rattle.bit_words.specs.Bits.{rank, excess}
use Rattle.bit_words.proofs.Ranks.{rank-le-rank, rank_more_yes}
use Rattle.parens.proofs.Balances.{IsBalanced}
use Rattle.parens.specs.Matching.{is_open, close_of, is_from, is_enclosing, innermost}
use Rattle.parens.proofs.Arcs.{IsArc, arc-opens}
use Rattle.parens.proofs.Greatest.{greatest-find, no_falling-find, find-no_falling}
use Rattle.parens.proofs.Enclosing.{round-above, innermost-past, innermost-first, innermost-end, round_inside, not_round_after}
use Rattle.code_laws.specs.Orbits.{same_number}

-- the number of the innermost pair round a gap
abbrev pub number_round : List Bool → ℕ → Option ℕ
number_round bits gap = option_map (rank true bits) (innermost bits gap)

module _ (bits : List Bool) (b : IsBalanced bits) where
  -- where the excess is 0, no pair is round
  pub none_round : (gap : ℕ) → gap ≤ length bits → excess bits gap ≡ pos 0 → number_round bits gap ≡ None
  unfolding innermost
  none_round gap within flat =
      ap (option_map (rank true bits)) (find-no_falling (is_enclosing bits gap) gap (λ x h. false_from_ne_true _ (λ r.
      let a = round-above bits gap x (omega arith) r in
      let v = a.above gap h (omega arith) in
      let low = b.low x (omega arith) in
      omega (arith, ints, v, low, flat))))

  open_of_round : (gap x : ℕ) → is_enclosing bits gap x ≡ true → is_open bits x ≡ true
  open_of_round gap x h = (and_parts (is_open bits x) (is_from gap (close_of bits x)) h).0

  -- an opening place has fewer before it than a later place
  pub fewer : (x y : ℕ) → x < y → y ≤ length bits → is_open bits x ≡ true → rank true bits x < rank true bits y
  fewer x y h l opens = let r = rank_more_yes true bits x false (omega arith) opens in let m = rank-le-rank true bits (x + 1) y (omega arith) in omega (arith, r, m)

  -- the number of a pair, or of none, before place i is not one from there on
  apart_some : (i x : ℕ) → i ≤ x → x < length bits → (o : Option ℕ) → innermost bits i ≡ o → same_number (option_map (rank true bits) o) (Some (rank true bits x)) ≡ false
  unfolding innermost
  apart_some i x l h None e = refl
  apart_some i x l h (Some y) e =
      let g = greatest-find (is_enclosing bits i) i y e in
      let less = fewer y i g.below (omega arith) (open_of_round i y g.passes) in
      let more = rank-le-rank true bits i x l in
      ne_eqb _ _ (λ s. omega (arith, s, less, more))

  module _ (i j : ℕ) (arc : IsArc bits i j) where
    inside_at : (gap : ℕ) → i < gap → gap ≤ j → (o : Option ℕ) → innermost bits gap ≡ o → same_number (number_round bits i) (option_map (rank true bits) o) ≡ false
    unfolding innermost
    inside_at gap l h None e = absurd (both_ways _ (no_falling-find (is_enclosing bits gap) gap e i l) (round_inside bits i j b arc gap l h))
    inside_at gap l h (Some x) e =
        let g = greatest-find (is_enclosing bits gap) gap x e in
        let le : i ≤ x = elim (cases_lt x i) [ inl m ↦ absurd (both_ways _ (g.after i m l) (round_inside bits i j b arc gap l h)) | inr m ↦ m ] in
        apart_some i x le (omega (arith, g.below, arc.within)) (innermost bits i) refl

    -- inside an arc the number is not the one before it
    pub apart_inside : (gap : ℕ) → i < gap → gap ≤ j → same_number (number_round bits i) (number_round bits gap) ≡ false
    apart_inside gap l h = inside_at gap l h (innermost bits gap) refl

    other_some : (gap : ℕ) → is_enclosing bits gap i ≡ false → gap ≤ length bits → (o : Option ℕ) → innermost bits gap ≡ o → same_number (Some (rank true bits i)) (option_map (rank true bits) o) ≡ false
    unfolding innermost
    other_some gap out within None e = refl
    other_some gap out within (Some y) e =
        let g = greatest-find (is_enclosing bits gap) gap y e in
        let opens = open_of_round gap y g.passes in
        ne_eqb _ _ (λ s.
        elim (cases_lt y i) [
          | inl m ↦ let v = fewer y i m (omega (arith, arc.order, arc.within)) opens in omega (arith, s, v)
          | inr m ↦ elim (cases_lt i y) [
            | inl n ↦ let v = fewer i y n (omega (arith, g.below)) (arc-opens bits i j arc) in omega (arith, s, v)
            | inr n ↦ let e : i ≡ y = omega arith in both_ways _ (subst (λ z. is_enclosing bits gap z ≡ false) e out) g.passes
          ]
        ])

    -- nor is the arc's number that of a gap after it, or up to it
    pub apart_after : (gap : ℕ) → j < gap → gap ≤ length bits → same_number (Some (rank true bits i)) (number_round bits gap) ≡ false
    apart_after gap l h = other_some gap (not_round_after bits i j b arc gap l h) h (innermost bits gap) refl

    before_at : (gap : ℕ) → gap ≤ i → (o : Option ℕ) → innermost bits gap ≡ o → same_number (Some (rank true bits i)) (option_map (rank true bits) o) ≡ false
    unfolding innermost
    before_at gap l None e = refl
    before_at gap l (Some y) e =
        let g = greatest-find (is_enclosing bits gap) gap y e in
        let v = fewer y i (omega (arith, g.below)) (omega (arith, arc.order, arc.within)) (open_of_round gap y g.passes) in
        ne_eqb _ _ (λ s. omega (arith, s, v))

    pub apart_before : (gap : ℕ) → gap ≤ i → same_number (Some (rank true bits i)) (number_round bits gap) ≡ false
    apart_before gap l = before_at gap l (innermost bits gap) refl

    -- before and after an arc the number is the same, and at its first and its last gap it is the arc's
    pub number_past : number_round bits (j + 1) ≡ number_round bits i
    number_past = ap (option_map (rank true bits)) (innermost-past bits i j b arc)

    pub number_first : number_round bits (i + 1) ≡ Some (rank true bits i)
    number_first = ap (option_map (rank true bits)) (innermost-first bits i j b arc)

    pub number_end : number_round bits j ≡ Some (rank true bits i)
    number_end = ap (option_map (rank true bits)) (innermost-end bits i j b arc)
