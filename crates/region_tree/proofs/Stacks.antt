-- What is open where each parenthesis opens is the innermost pair round it.
use Rattle.std.specs.Prelude.{option_map, unwrap_or, slice_index_or, pos, ◌-ℤ◌, ◌+ℤ◌, ◌≤ℤ◌, take, count_by, find, is_none}
use Rattle.std.proofs.Common.{◌≡◌, ◌≢◌, ℕ, zero, suc, ◌+◌, ◌-◌, ◌*◌, ◌<◌, ◌≤◌, inl, inr, Bool, true, false, List, [], ◌∷◌, ◌++◌, map, length, get_or, drop, refl, ap, sym, ◌∙◌, subst, arith, Option, Some, None, eq-eqb}
use Rattle.std.specs.List.{range_with_len}
use Rattle.std.proofs.lemmas.Bool.{cases_lt, cases_Bool, le-ltb}
use Rattle.std.proofs.lemmas.Int.{ints}
use Rattle.std.proofs.lemmas.List.{drop_more, drop_all}
use Rattle.bit_words.specs.Bits.{rank, excess, same}
use Rattle.bit_words.proofs.Ranks.{rank-zero, rank-le-rank, rank_more_yes, rank_more_no, rank_both, excess_up, excess_down}
use Rattle.bit_words.proofs.Finds.{find-none}
use Rattle.parens.specs.Matching.{is_open, innermost, falling, is_balanced, balance_fault, closes_more, or_end}
use Rattle.parens.proofs.Balances.{IsBalanced}
use Rattle.parens.proofs.Arcs.{arc_from, arc_to, excess-zero}
use Rattle.parens.proofs.Enclosing.{innermost-first, innermost-end, innermost-past}
use Rattle.region_tree.specs.Nesting.{parent_number}
use Rattle.region_tree.proofs.Opened.{parent-rank}
use Rattle.region_tree.proofs.Reading.{ends, ones, first, rest, uppers}

-- what is open before a gap, from the innermost on
Stack : List Bool → ℕ → List ℕ → Type 0
Stack bits gap [] = innermost bits gap ≡ None
Stack bits gap (k ∷ around) = (j : ℕ) × (innermost bits gap ≡ Some j) × (rank true bits j ≡ k) × Stack bits j around

stack_at : (bits : List Bool) (gap gap' : ℕ) (around : List ℕ) → innermost bits gap' ≡ innermost bits gap → Stack bits gap around → Stack bits gap' around
unfolding Stack
stack_at bits gap gap' [] e s = e ∙ s
stack_at bits gap gap' (k ∷ around) e s = (s.0, e ∙ s.1, s.2, s.3)

stack_first : (bits : List Bool) (gap : ℕ) (around : List ℕ) → Stack bits gap around → option_map (rank true bits) (innermost bits gap) ≡ first around
unfolding Stack first
stack_first bits gap [] s = ap (option_map (rank true bits)) s
stack_first bits gap (k ∷ around) s = ap (option_map (rank true bits)) s.1 ∙ ap Some s.2

stack_start : (bits : List Bool) → Stack bits 0 []
unfolding Stack innermost falling
stack_start bits = refl

module _ (bits : List Bool) (b : IsBalanced bits) where
  stack_open : (i : ℕ) (around : List ℕ) → is_open bits i ≡ true → Stack bits i around → Stack bits (i + 1) (rank true bits i ∷ around)
  unfolding Stack
  stack_open i around opens s = let a = arc_from bits i b opens in (i, innermost-first bits i a.0 b a.1, refl, s)

  stack_close : (i : ℕ) (around : List ℕ) → i < length bits → is_open bits i ≡ false → Stack bits i around → Stack bits (i + 1) (rest around)
  unfolding Stack rest
  stack_close i [] l closes s =
      let low = b.low (i + 1) (omega arith) in
      let z = excess-zero bits in
      let a = arc_to bits 0 i closes l (omega arith) (omega (arith, ints, low, z)) in
      let end = innermost-end bits a.0 i b a.2 in
      absurd (cc)
  stack_close i (k ∷ around) l closes s =
      let low = b.low (i + 1) (omega arith) in
      let z = excess-zero bits in
      let a = arc_to bits 0 i closes l (omega arith) (omega (arith, ints, low, z)) in
      let end = innermost-end bits a.0 i b a.2 in
      let same : s.0 ≡ a.0 = (let x = s.1 in cc) in
      stack_at bits s.0 (i + 1) around (innermost-past bits a.0 i b a.2 ∙ ap (innermost bits) (sym same)) s.3

  abbrev n : ℕ
  n = rank true bits (length bits)

  uppers-none : (names around : List ℕ) → uppers [] names around ≡ []
  unfolding uppers
  uppers-none names around = refl

  uppers-true : (rest_bits : List Bool) (k : ℕ) (names around : List ℕ) → uppers (true ∷ rest_bits) (k ∷ names) around ≡ (first around ∷ uppers rest_bits names (k ∷ around))
  unfolding uppers
  uppers-true rest_bits k names around = refl

  uppers-false : (rest_bits : List Bool) (names around : List ℕ) → uppers (false ∷ rest_bits) names around ≡ uppers rest_bits names (rest around)
  unfolding uppers
  uppers-false rest_bits names around = refl

  next_bit : (i : ℕ) (bit : Bool) → i < length bits → is_open bits i ≡ bit → drop i bits ≡ (bit ∷ drop (i + 1) bits)
  next_bit i bit l is = drop_more bits i false l ∙ ap (λ x. x ∷ drop (i + 1) bits) is

  -- from each gap on, what is open where each opens is its parent
  uppers-from : (d i k : ℕ) (around : List ℕ) → i + d ≡ length bits → rank true bits i ≡ k → Stack bits i around → uppers (drop i bits) (range_with_len k (n - k)) around ≡ map (parent_number bits) (range_with_len k (n - k))
  uppers-from zero i k around e is s =
      let same : i ≡ length bits = omega arith in
      let none : n - k ≡ 0 = (let r = ap (rank true bits) same in omega (arith, r, is)) in
      ap (λ w. uppers w (range_with_len k (n - k)) around) (drop_all i bits (omega arith)) ∙ uppers-none (range_with_len k (n - k)) around ∙ ap (λ j. map (parent_number bits) (range_with_len k j)) (sym none)
  uppers-from (suc d) i k around e is s =
      elim (cases_Bool (is_open bits i)) [
        | inl opens ↦
            let more = rank_more_yes true bits i false (omega arith) opens in
            let most = rank-le-rank true bits (i + 1) (length bits) (omega arith) in
            let left : n - k ≡ suc (n - (k + 1)) = omega (arith, more, most, is) in
            let up : first around ≡ parent_number bits k = sym (ap (parent_number bits) (sym is) ∙ parent-rank bits i opens ∙ stack_first bits i around s) in
            let further = uppers-from d (i + 1) (k + 1) (k ∷ around) (omega arith) (omega (arith, more, is)) (subst (λ x. Stack bits (i + 1) (x ∷ around)) is (stack_open i around opens s)) in
            let goal_at = λ (j : ℕ). uppers (drop i bits) (range_with_len k j) around ≡ map (parent_number bits) (range_with_len k j) in
            subst goal_at (sym left)
            (ap (λ w. uppers w (k ∷ range_with_len (k + 1) (n - (k + 1))) around) (next_bit i true (omega arith) opens) ∙ uppers-true (drop (i + 1) bits) k (range_with_len (k + 1) (n - (k + 1))) around
            ∙ ap (λ x. x ∷ uppers (drop (i + 1) bits) (range_with_len (k + 1) (n - (k + 1))) (k ∷ around)) up ∙ ap (λ w. parent_number bits k ∷ w) further)
        | inr closes ↦
            let more = rank_more_no true bits i false (omega arith) closes in
            ap (λ w. uppers w (range_with_len k (n - k)) around) (next_bit i false (omega arith) closes) ∙ uppers-false (drop (i + 1) bits) (range_with_len k (n - k)) around
            ∙ uppers-from d (i + 1) k (rest around) (omega arith) (omega (arith, more, is)) (stack_close i around (omega arith) closes s)
      ]

  pub uppers-parents : uppers bits (range_with_len 0 n) [] ≡ map (parent_number bits) (range_with_len 0 n)
  uppers-parents =
      let e : n - 0 ≡ n = omega arith in
      subst (λ j. uppers bits (range_with_len 0 j) [] ≡ map (parent_number bits) (range_with_len 0 j)) e (uppers-from (length bits) 0 0 [] (omega arith) (rank-zero true bits) (stack_start bits))

-- ---- parentheses that end as deep as they begin are balanced
ends-nil : (d : ℕ) → ends d [] ≡ Some d
unfolding ends
ends-nil d = refl

ends-true : (d : ℕ) (bits : List Bool) → ends d (true ∷ bits) ≡ ends (suc d) bits
unfolding ends
ends-true d bits = refl

ends-below : (bits : List Bool) → ends zero (false ∷ bits) ≡ None
unfolding ends
ends-below bits = refl

ends-false : (d : ℕ) (bits : List Bool) → ends (suc d) (false ∷ bits) ≡ ends d bits
unfolding ends
ends-false d bits = refl

ones-true : (bits : List Bool) → ones (true ∷ bits) ≡ suc (ones bits)
unfolding ones
ones-true bits = refl

ones-false : (bits : List Bool) → ones (false ∷ bits) ≡ ones bits
unfolding ones
ones-false bits = refl

ones-nil : ones [] ≡ 0
unfolding ones
ones-nil = refl

-- from a gap on it never falls below 0, and it ends at e
record IsEven (bits : List Bool) (i e : ℕ) : Type 0 where
  low : (p : ℕ) → i ≤ p → p ≤ length bits → pos 0 ≤ℤ excess bits p
  end : excess bits (length bits) ≡ pos e

module _ (bits : List Bool) where
  bit_next : (i : ℕ) (bit : Bool) → i < length bits → is_open bits i ≡ bit → drop i bits ≡ (bit ∷ drop (i + 1) bits)
  bit_next i bit l is = drop_more bits i false l ∙ ap (λ x. x ∷ drop (i + 1) bits) is

  even_more : (i e d : ℕ) → excess bits i ≡ pos d → IsEven bits (i + 1) e → IsEven bits i e
  even_more i e d is h = record {
    low = λ p a b. elim (cases_lt i p) [ inl l ↦ h.low p (omega arith) b | inr g ↦ let same : i ≡ p = omega arith in subst (λ q. pos 0 ≤ℤ excess bits q) same (omega (arith, ints, is)) ];
    end = h.end;
  }

  closed_more : (i e : ℕ) → (d : ℕ) → i < length bits → is_open bits i ≡ false → excess bits i ≡ pos d → ends d (drop i bits) ≡ Some e → ((c : ℕ) → excess bits (i + 1) ≡ pos c → ends c (drop (i + 1) bits) ≡ Some e → IsEven bits (i + 1) e) → IsEven bits i e
  closed_more i e zero l closes is h more = let none = sym (ap (ends zero) (bit_next i false l closes) ∙ ends-below (drop (i + 1) bits)) ∙ h in absurd (cc)
  closed_more i e (suc d) l closes is h more =
      let down = excess_down bits i false l closes in
      even_more i e (suc d) is (more d (omega (arith, ints, down, is)) (sym (ap (ends (suc d)) (bit_next i false l closes) ∙ ends-false d (drop (i + 1) bits)) ∙ h))

  even_from : (r i d e : ℕ) → i + r ≡ length bits → excess bits i ≡ pos d → ends d (drop i bits) ≡ Some e → IsEven bits i e
  even_from zero i d e at is h =
      let same : i ≡ length bits = omega arith in
      let end : Some d ≡ Some e = sym (ap (ends d) (drop_all i bits (omega arith)) ∙ ends-nil d) ∙ h in
      let d_is : d ≡ e = cc in
      record {
        low = λ p a b. let here : i ≡ p = omega arith in subst (λ q. pos 0 ≤ℤ excess bits q) here (omega (arith, ints, is));
        end = ap (excess bits) (sym same) ∙ is ∙ ap pos d_is;
      }
  even_from (suc r) i d e at is h = elim (cases_Bool (is_open bits i)) [
    | inl opens ↦
        let up = excess_up bits i false (omega arith) opens in
        even_more i e d is (even_from r (i + 1) (suc d) e (omega arith) (omega (arith, ints, up, is)) (sym (ap (ends d) (bit_next i true (omega arith) opens) ∙ ends-true d (drop (i + 1) bits)) ∙ h))
    | inr closes ↦ closed_more i e d (omega arith) closes is h (λ c is' h'. even_from r (i + 1) c e (omega arith) is' h')
  ]

  pub balanced-ends : ends 0 bits ≡ Some 0 → IsBalanced bits
  balanced-ends h =
      let even = even_from (length bits) 0 0 0 (omega arith) (excess-zero bits) h in
      record { low = λ p l. even.low p (omega arith) l; end = even.end }

  ones-from : (r i : ℕ) → i + r ≡ length bits → rank true bits i + ones (drop i bits) ≡ rank true bits (length bits)
  ones-from zero i at =
      let same : i ≡ length bits = omega arith in
      let none = ap ones (drop_all i bits (omega arith)) ∙ ones-nil in
      let r = ap (rank true bits) same in
      omega (arith, none, r)
  ones-from (suc r) i at = elim (cases_Bool (is_open bits i)) [
    | inl opens ↦
        let up = rank_more_yes true bits i false (omega arith) opens in
        let one = ap ones (bit_next i true (omega arith) opens) ∙ ones-true (drop (i + 1) bits) in
        let more = ones-from r (i + 1) (omega arith) in
        omega (arith, up, one, more)
    | inr closes ↦
        let up = rank_more_no true bits i false (omega arith) closes in
        let one = ap ones (bit_next i false (omega arith) closes) ∙ ones-false (drop (i + 1) bits) in
        let more = ones-from r (i + 1) (omega arith) in
        omega (arith, up, one, more)
  ]

  pub ones-rank : rank true bits (length bits) ≡ ones bits
  ones-rank = let e = ones-from (length bits) 0 (omega arith) in let z = rank-zero true bits in omega (arith, e, z)

-- ---- balance as the test
even : (bits : List Bool) → IsBalanced bits → rank true bits (length bits) + rank false bits 0 ≡ rank false bits (length bits) + rank true bits 0
unfolding excess
even bits b = let e = b.end in let t = rank-zero true bits in let f = rank-zero false bits in omega (arith, ints, e, t, f)

closes-no-more : (bits : List Bool) → IsBalanced bits → (q : ℕ) → q < length bits → closes_more bits 0 q ≡ false
unfolding excess
closes-no-more bits b q l =
    let e = b.low (q + 1) (omega arith) in
    let t = rank-zero true bits in
    let f = rank-zero false bits in
    le-ltb (rank true bits (q + 1) + rank false bits 0) (rank false bits (q + 1) + rank true bits 0) (omega (arith, ints, e, t, f))

pub balanced_all : (bits : List Bool) → IsBalanced bits → is_balanced bits 0 (length bits) ≡ true
unfolding balance_fault
balanced_all bits b =
    let n = length bits in
    let none : find (closes_more bits 0) (range_with_len 0 (n - 0)) ≡ None = find-none (closes_more bits 0) 0 (n - 0) (λ q x y. closes-no-more bits b q (omega arith)) in
    let fine = eq-eqb _ _ (even bits b) in
    rw (none, fine) refl
