-- What balance and the first fault say of mates.
use Rattle.std.specs.Prelude.{not, pos, ◌-ℤ◌, ◌≤ℤ◌}
use Rattle.std.proofs.Common.{◌≡◌, ◌≢◌, ℕ, ◌+◌, ◌-◌, ◌<◌, ◌≤◌, inl, inr, Bool, true, false, List, length, ap, arith, subst}
use Rattle.std.proofs.lemmas.Bool.{cases_lt, cases_Bool, false_from_ne_true}
use Rattle.std.proofs.lemmas.Int.{ints}
use Rattle.bit_words.specs.Bits.{excess}
use Rattle.bit_words.proofs.Ranks.{excess_up}
use Rattle.min_max_tree.specs.Search.{Reaches, Rests}
use Rattle.parens.specs.Matching.{is_open, mate_of}
use Rattle.parens.specs.Pairs.{AreMated, IsUnmatched, IsFirstUnmatched}
use Rattle.parens.proofs.Arcs.{IsArc, arc-opens, arc-closes, arc_before, arc_to, last_at, mate-opens, mate-closes, mate-arc, open_where_up}

-- from place `from` to place `to` the excess is never below that at `from`
pub record IsNeverBelow (bits : List Bool) (from to : ℕ) : Type 0 where
  pub low : (q : ℕ) → from ≤ q → q ≤ to → excess bits from ≤ℤ excess bits q

pub never-rests : (bits : List Bool) (from to left : ℕ) → Rests bits (excess bits from -ℤ pos 1) from to 1 left → IsNeverBelow bits from to
never-rests bits from to left r = record {
  low = λ q a b. elim (cases_lt from q) [
    | inl m ↦ let u = r.stays.above q m b in omega (arith, ints, u)
    | inr m ↦ let e : from ≡ q = omega arith in subst (λ x. excess bits from ≤ℤ excess bits x) e (omega (arith, ints))
  ];
}

never-reaches : (bits : List Bool) (from to p : ℕ) → Reaches bits (excess bits from -ℤ pos 1) from to (p + 1) → IsNeverBelow bits from p
never-reaches bits from to p r = record {
  low = λ q a b. elim (cases_lt from q) [
    | inl m ↦ let u = r.before q m (omega arith) in omega (arith, ints, u)
    | inr m ↦ let e : from ≡ q = omega arith in subst (λ x. excess bits from ≤ℤ excess bits x) e (omega (arith, ints))
  ];
}

module _ (bits : List Bool) (from to : ℕ) (never : IsNeverBelow bits from to) (within : to ≤ length bits) where
  opener : (j : ℕ) → from ≤ j → j < to → is_open bits j ≡ false → (i : ℕ) × (from ≤ i) × IsArc bits i j
  opener j a l closes = arc_to bits from j closes (omega arith) a (never.low (j + 1) (omega arith) (omega arith))

  pub none_unmatched : (j : ℕ) → from ≤ j → j < to → ¬ IsUnmatched bits from j
  none_unmatched j a l u =
      let m = opener j a l u.closes in
      u.alone m.0 m.1 m.2.order (arc-opens bits m.0 j m.2) (mate-opens bits m.0 j m.2)

  module _ (level : excess bits to ≡ excess bits from) where
    closer : (i : ℕ) → from ≤ i → i < to → is_open bits i ≡ true → (j : ℕ) × (j < to) × IsArc bits i j
    closer i a l opens = let u = never.low i a (omega arith) in arc_before bits i to opens l within (omega (arith, ints, u, level))

    mated_at : (i : ℕ) → from ≤ i → i < to → (from ≤ mate_of bits i) × (mate_of bits i < to) × (is_open bits (mate_of bits i) ≡ not (is_open bits i))
    mated_at i a l =
        elim (cases_Bool (is_open bits i)) [
          | inl o ↦
              let m = closer i a l o in
              let e = mate-opens bits i m.0 m.2 in
              let c = arc-closes bits i m.0 m.2 in
              let r = m.2.order in
              (omega arith, omega arith, rw (e, o) c)
          | inr c ↦
              let m = opener i a l c in
              let e = mate-closes bits m.0 i m.2 in
              let o = arc-opens bits m.0 i m.2 in
              let r = m.2.order in
              (omega arith, omega arith, rw (e, c) o)
        ]

    are_mated : AreMated bits from to
    are_mated = record {
      low = λ i a l. (mated_at i a l).0;
      high = λ i a l. (mated_at i a l).1;
      other = λ i a l. (mated_at i a l).2;
    }

pub mated-rests : (bits : List Bool) (from to left : ℕ) → to ≤ length bits → Rests bits (excess bits from -ℤ pos 1) from to 1 left → left ≡ 1 → AreMated bits from to
mated-rests bits from to left within r e = let l = r.level in are_mated bits from to (never-rests bits from to left r) within (omega (arith, ints, l, e))

-- the place where the excess first falls below
pub unmatched-reaches : (bits : List Bool) (from to p : ℕ) → to ≤ length bits → Reaches bits (excess bits from -ℤ pos 1) from to (p + 1) → IsFirstUnmatched bits from to p
unmatched-reaches bits from to p within r =
    let never = never-reaches bits from to p r in
    let here = r.here in
    let a : from ≤ p = omega (arith, r.after) in
    let b : p < to = omega (arith, r.within) in
    record {
      low = a;
      high = omega arith;
      first = λ j x y. none_unmatched bits from p never (omega arith) j x y;
      closes = λ l. record {
        closes = false_from_ne_true _ (λ o. let up = excess_up bits p false (omega arith) o in let u = never.low p a (omega arith) in omega (arith, ints, up, u, here));
        alone = λ i x y o e. let m = mate-arc bits i p o y e in let u = never.low i x (omega arith) in let v = m.level in omega (arith, ints, u, v, here);
      };
      opens = λ e. absurd (omega arith);
    }

pub unmatched-rests : (bits : List Bool) (from to left : ℕ) → from ≤ to → to ≤ length bits → Rests bits (excess bits from -ℤ pos 1) from to 1 left → left ≢ 1 → IsFirstUnmatched bits from to to
unmatched-rests bits from to left order within r ne =
    let never = never-rests bits from to left r in
    let level = r.level in
    let some = r.some in
    let two : 2 ≤ left = omega arith in
    let d = to - from in
    let e : from + d ≡ to = omega arith in
    let top : excess bits (from + d) ≡ excess bits to = ap (excess bits) e in
    let m = last_at bits (excess bits to -ℤ pos 1) from d (omega arith) (omega (arith, ints, level, two)) (omega (arith, ints, top)) in
    let p = m.0 in
    let up = m.1.above (p + 1) (omega arith) (omega (arith, m.1.before)) in
    record {
      low = order;
      high = omega arith;
      first = λ j x y. none_unmatched bits from to never within j x y;
      closes = λ l. absurd (omega arith);
      opens = λ f. (
        p,
        m.1.from,
        omega (arith, m.1.before),
        record {
          opens = open_where_up bits p (omega (arith, m.1.before)) (omega (arith, ints, up, m.1.here));
          alone = λ j x y g.
              let o = open_where_up bits p (omega (arith, m.1.before)) (omega (arith, ints, up, m.1.here)) in
              let a = mate-arc bits p j o x g in
              let v = m.1.above (j + 1) (omega arith) (omega arith) in
              let w = a.level in
              let h = m.1.here in
              omega (arith, ints, v, w, h);
        },
      );
    }
