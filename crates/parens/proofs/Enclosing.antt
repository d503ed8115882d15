-- The innermost pair round a gap, before and after a pair and inside it.
use Rattle.std.specs.Cmp.{both_ways as tests_agree}
use Rattle.std.specs.Prelude.{pos, ◌+ℤ◌, ◌-ℤ◌, ◌<ℤ◌, ◌≤ℤ◌, find, IsNone, IfSome, ◌↔◌}
use Rattle.std.proofs.Common.{◌≡◌, ◌≢◌, ℕ, suc, ◌+◌, ◌-◌, ◌*◌, ◌<◌, ◌≤◌, inl, inr, Bool, true, false, List, length, refl, ap, sym, ◌∙◌, arith, subst, Option, Some, None}
use Rattle.std.proofs.lemmas.Bool.{cases_lt, and_parts, and_from, leb-true, le-leb, false_from_ne_true}
use Rattle.std.proofs.lemmas.Int.{ints}
use Rattle.bit_words.specs.Bits.{rank, excess, IsLast}
use Rattle.min_max_tree.proofs.Falls.{excess-ranks, excess-step}
use Rattle.parens.proofs.Balances.{IsBalanced}
use Rattle.parens.specs.Matching.{is_open, close_of, is_from, is_enclosing, falling, innermost, mate_of}
use Rattle.parens.specs.Pairs.{IsInnermost}
use Rattle.parens.proofs.Arcs.{IsArc, arc-close, some_close, open_where_up, arc_from, mate-opens, arc-nests, above_last, never_less}
use Rattle.parens.proofs.Greatest.{falling_skip, falling_same, find-greatest, find-no_falling}

-- the excess stays above where it was before place i, up to a gap
pub record IsAbove (bits : List Bool) (gap i : ℕ) : Type 0 where
  pub above : (q : ℕ) → i < q → q ≤ gap → excess bits i <ℤ excess bits q

pub from_some : (gap : ℕ) (o : Option ℕ) → is_from gap o ≡ true → (j : ℕ) × (o ≡ Some j) × (gap ≤ j)
from_some gap None h = cc
from_some gap (Some j) h = (j, refl, leb-true gap j h)

pub round-above : (bits : List Bool) (gap i : ℕ) → i < length bits → is_enclosing bits gap i ≡ true → IsAbove bits gap i
round-above bits gap i l h =
    let parts = and_parts (is_open bits i) (is_from gap (close_of bits i)) h in
    let s = from_some gap (close_of bits i) parts.1 in
    let a = arc-close bits i s.0 parts.0 l s.1 in
    record { above = λ q x y. a.above q x (omega (arith, s.2)) }

from_close : (gap : ℕ) (o : Option ℕ) → o ≢ None → ((j : ℕ) → o ≡ Some j → gap ≤ j) → is_from gap o ≡ true
from_close gap None some h = absurd (some refl)
from_close gap (Some j) some h = le-leb gap j (h j refl)

pub above-round : (bits : List Bool) (gap i : ℕ) → IsBalanced bits → i < gap → gap ≤ length bits → IsAbove bits gap i → is_enclosing bits gap i ≡ true
above-round bits gap i b order within a =
    let opens = open_where_up bits i (omega arith) (a.above (i + 1) (omega arith) (omega arith)) in
    and_from _ _ opens (from_close gap (close_of bits i) (some_close bits i b opens)
    (λ j e. let c = arc-close bits i j opens (omega arith) e in
    elim (cases_lt j gap) [
      | inl l ↦ let x = a.above (j + 1) (omega (arith, c.order)) (omega arith) in let y = c.level in absurd (omega (arith, ints, x, y))
      | inr g ↦ g
    ]))

module _ (bits : List Bool) (i j : ℕ) (b : IsBalanced bits) (arc : IsArc bits i j) where
  -- a pair is round the gap before an arc exactly where it is round the gap after it
  round_past : (x : ℕ) → x < i → is_enclosing bits i x ≡ is_enclosing bits (j + 1) x
  round_past x l =
      tests_agree _ _
      (λ h. let a = round-above bits i x (omega (arith, arc.order, arc.within)) h in
      let here = a.above i l (omega arith) in
      above-round bits (j + 1) x b (omega (arith, arc.order)) (omega (arith, arc.within)) (record {
        above = λ q m n.
            elim (cases_lt i q) [
              | inl after ↦ elim (cases_lt j q) [
                | inl past ↦ let e : j + 1 ≡ q = omega arith in let v = arc.level in subst (λ y. excess bits x <ℤ excess bits y) e (omega (arith, ints, here, v))
                | inr in_arc ↦ let v = arc.above q after in_arc in omega (arith, ints, here, v)
              ]
              | inr before ↦ a.above q m before
            ];
      }))
      (λ h. let a = round-above bits (j + 1) x (omega (arith, arc.order, arc.within)) h in
      above-round bits i x b l (omega (arith, arc.order, arc.within)) (record { above = λ q m n. a.above q m (omega (arith, arc.order)) }))

  -- no place of an arc is round the gap after it
  not_round_past : (x : ℕ) → i ≤ x → x < j + 1 → is_enclosing bits (j + 1) x ≡ false
  not_round_past x l h =
      false_from_ne_true _ (λ r.
      let a = round-above bits (j + 1) x (omega (arith, arc.within)) r in
      let v = a.above (j + 1) h (omega arith) in
      let w = arc.level in
      elim (cases_lt i x) [
        | inl m ↦ let u = arc.above x m (omega arith) in omega (arith, ints, u, v, w)
        | inr m ↦ let e : x ≡ i = omega arith in let z : excess bits x ≡ excess bits i = ap (excess bits) e in omega (arith, ints, v, w, z)
      ])

  -- the innermost pair round the gap before an arc is that round the gap after it
  pub innermost-past : innermost bits (j + 1) ≡ innermost bits i
  unfolding innermost
  innermost-past =
      let k = j + 1 - i in
      let e : i + k ≡ j + 1 = omega (arith, arc.order) in
      let s : find (is_enclosing bits (j + 1)) (falling (i + k)) ≡ find (is_enclosing bits (j + 1)) (falling i) = falling_skip (is_enclosing bits (j + 1)) i k (λ q l h. not_round_past q l (omega arith)) in
      subst (λ n. find (is_enclosing bits (j + 1)) (falling n) ≡ find (is_enclosing bits (j + 1)) (falling i)) e s ∙ sym (falling_same (is_enclosing bits i) (is_enclosing bits (j + 1)) i round_past)

  -- an arc is round each gap inside it
  pub round_inside : (gap : ℕ) → i < gap → gap ≤ j → is_enclosing bits gap i ≡ true
  round_inside gap l h = above-round bits gap i b l (omega (arith, arc.within)) (record { above = λ q m n. arc.above q m (omega arith) })

  -- and no gap up to it or after it
  pub not_round_after : (gap : ℕ) → j < gap → gap ≤ length bits → is_enclosing bits gap i ≡ false
  not_round_after gap l h =
      false_from_ne_true _ (λ r. let a = round-above bits gap i (omega (arith, arc.order, arc.within)) r in let v = a.above (j + 1) (omega (arith, arc.order)) (omega arith) in let w = arc.level in omega (arith, ints, v, w))

  -- the innermost pair round the first gap of an arc, and round the last one, is the arc
  innermost_at : (gap : ℕ) → i < gap → gap ≤ j → ((x : ℕ) → i + 1 ≤ x → x < gap → is_enclosing bits gap x ≡ false) → innermost bits gap ≡ Some i
  unfolding innermost falling
  innermost_at gap l h none =
      let k = gap - (i + 1) in
      let e : suc i + k ≡ gap = omega arith in
      let s : find (is_enclosing bits gap) (falling (suc i + k)) ≡ find (is_enclosing bits gap) (falling (suc i)) = falling_skip (is_enclosing bits gap) (suc i) k (λ q m n. none q (omega arith) (omega arith)) in
      let t : find (is_enclosing bits gap) (falling (suc i)) ≡ Some i = rw (round_inside gap l h) refl in
      subst (λ n. find (is_enclosing bits gap) (falling n) ≡ Some i) e (s ∙ t)

  pub innermost-first : innermost bits (i + 1) ≡ Some i
  innermost-first = innermost_at (i + 1) (omega arith) (omega (arith, arc.order)) (λ x l h. absurd (omega arith))

  pub innermost-end : innermost bits j ≡ Some i
  innermost-end =
      innermost_at j arc.order (omega arith) (λ x l h. false_from_ne_true _ (λ r.
      let a = round-above bits j x (omega (arith, arc.within)) r in
      let v = a.above j h (omega arith) in
      let u = arc.above x (omega arith) (omega arith) in
      let w = arc.level in
      let d : excess bits j ≤ℤ (excess bits (j + 1) +ℤ pos 1) = excess-step bits j arc.within in
      omega (arith, ints, u, v, w, d)))

-- ---- the innermost pair round a gap, as it is searched
module _ (bits : List Bool) (gap : ℕ) (b : IsBalanced bits) (within : gap ≤ length bits) where
  -- the last place before the gap where the excess is one less opens it
  innermost-last : (p : ℕ) → p < gap → excess bits p ≡ excess bits gap -ℤ pos 1 → ((q : ℕ) → p < q → q < gap → excess bits q ≢ excess bits gap -ℤ pos 1) → innermost bits gap ≡ Some p
  unfolding innermost
  innermost-last p l e never =
      find-greatest (is_enclosing bits gap) gap p l
      (above-round bits gap p b l within (record { above = λ q x y. above_last bits p gap q within e never x y }))
      (λ q x y. false_from_ne_true _ (λ r.
      let u = (round-above bits gap q (omega arith) r).above gap y (omega arith) in
      let v = above_last bits p gap q within e never x (omega arith) in
      omega (arith, ints, u, v, e)))

  innermost-zero : excess bits gap ≡ pos 0 → innermost bits gap ≡ None
  unfolding innermost
  innermost-zero e =
      find-no_falling (is_enclosing bits gap) gap (λ q h. false_from_ne_true _ (λ r.
      let u = (round-above bits gap q (omega arith) r).above gap h (omega arith) in
      let v = b.low q (omega arith) in
      omega (arith, ints, u, v, e)))

  pub last-innermost : (o : Option ℕ) → IsLast (λ p. excess bits p ≡ excess bits gap -ℤ pos 1) 0 gap o → o ≡ innermost bits gap
  last-innermost None h = sym (innermost-zero (never_less bits gap b within h))
  last-innermost (Some p) h = sym (innermost-last p h.1 h.2 h.3)

  pub last-zero : (o : Option ℕ) → IsLast (λ p. excess bits p ≡ excess bits gap -ℤ pos 1) 0 gap o → IsNone o ↔ (excess bits gap ≡ pos 0)
  last-zero None h = (λ n. never_less bits gap b within h, λ e. refl)
  last-zero (Some p) h = (λ n. cc, λ e. let v = b.low p (omega (arith, h.1)) in absurd (omega (arith, ints, v, e, h.2)))

  is_innermost : (p : ℕ) → p < gap → excess bits p ≡ excess bits gap -ℤ pos 1 → ((q : ℕ) → p < q → q < gap → excess bits q ≢ excess bits gap -ℤ pos 1) → IsInnermost bits gap p
  is_innermost p l e never =
      let r = above-round bits gap p b l within (record { above = λ q x y. above_last bits p gap q within e never x y }) in
      let opens = (and_parts (is_open bits p) (is_from gap (close_of bits p)) r).0 in
      let m = arc_from bits p b opens in
      let f = mate-opens bits p m.0 m.1 in
      let u = m.1.level in
      let after : gap ≤ m.0 = elim (cases_lt m.0 gap) [
        | inl x ↦ let v = above_last bits p gap (m.0 + 1) within e never (omega (arith, m.1.order)) (omega arith) in absurd (omega (arith, ints, u, v))
        | inr x ↦ x
      ] in
      record {
        opens = opens;
        before = l;
        after = omega arith;
        inside = λ k o h a.
            let n = arc_from bits k b o in
            let g = mate-opens bits k n.0 n.1 in
            elim (cases_lt p k) [
              | inl x ↦
                  let v = above_last bits p gap k within e never x (omega arith) in
                  let w = n.1.above gap h (omega arith) in
                  absurd (omega (arith, ints, v, w, e))
              | inr x ↦ elim (cases_lt k p) [
                | inl y ↦ let z = arc-nests bits k n.0 p b n.1 y (omega arith) in (omega arith, omega (arith, z.1))
                | inr y ↦ let z : k ≡ p = omega arith in (omega arith, subst (λ x. mate_of bits p ≤ mate_of bits x) (sym z) (omega arith))
              ]
            ];
      }

  pub last-is_innermost : (o : Option ℕ) → IsLast (λ p. excess bits p ≡ excess bits gap -ℤ pos 1) 0 gap o → IfSome o (IsInnermost bits gap)
  last-is_innermost None h = tt
  last-is_innermost (Some p) h = is_innermost p h.1 h.2 h.3

-- no excess is below 0, which a count tells
pub counted-none : (bits : List Bool) (i drop opens : ℕ) → IsBalanced bits → i ≤ length bits → opens ≡ rank true bits i → 2 * opens < i + drop
    → IsLast (λ p. excess bits p ≡ excess bits i -ℤ pos drop) 0 i None
counted-none bits i drop opens b within is few p l h e =
    let low = b.low p (omega (arith, within, h)) in
    let at = excess-ranks bits i within in
    omega (arith, ints, low, at, e, is, few)
