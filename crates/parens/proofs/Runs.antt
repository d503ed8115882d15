-- How many places are open after a run of places, and the first that closes where none is.
use Rattle.std.specs.Prelude.{find, pos, ◌-ℤ◌, ◌<ℤ◌}
use Rattle.std.specs.List.{range_with_len}
use Rattle.std.proofs.Common.{◌≡◌, ◌≢◌, ℕ, ◌+◌, ◌-◌, ◌≤◌, Bool, true, false, List, refl, arith, Some, None, ◌==◌}
use Rattle.std.proofs.lemmas.Bool.{eqb-true, eq-eqb, ltb-true, lt-ltb, false_from_ne_true}
use Rattle.std.proofs.lemmas.Int.{ints}
use Rattle.bit_words.specs.Bits.{rank, excess}
use Rattle.bit_words.proofs.Finds.{find-least, find-none}
use Rattle.min_max_tree.specs.Search.{Reaches, Rests}
use Rattle.parens.specs.Matching.{closes_more, balance_fault}

closes-below : (bits : List Bool) (from p : ℕ) → closes_more bits from p ≡ true → excess bits (p + 1) <ℤ excess bits from
unfolding excess
closes-below bits from p h = omega (arith, ints, ltb-true _ _ h)

below-closes : (bits : List Bool) (from p : ℕ) → excess bits (p + 1) <ℤ excess bits from → closes_more bits from p ≡ true
unfolding excess
below-closes bits from p h = lt-ltb _ _ (omega (arith, ints, h))

-- where the excess first falls below that at `from` a place closes that does not open from there on
pub fault-reached : (bits : List Bool) (from to p : ℕ) → Reaches bits (excess bits from -ℤ pos 1) from to (p + 1) → balance_fault bits from to ≡ Some p
unfolding balance_fault
fault-reached bits from to p r =
    let f : find (closes_more bits from) (range_with_len from (to - from)) ≡ Some p =
    find-least (closes_more bits from) from (to - from) p (record {
      from = omega (arith, r.after);
      within = omega (arith, r.within, r.after);
      passes = below-closes bits from p (omega (arith, ints, r.here));
      before = λ q a b. false_from_ne_true _ (λ t.
          let u = closes-below bits from q t in
          let v = r.before (q + 1) (omega arith) (omega arith) in
          omega (arith, ints, u, v));
    }) in
    rw f refl

no_place : (bits : List Bool) (from to left : ℕ) → from ≤ to → Rests bits (excess bits from -ℤ pos 1) from to 1 left → find (closes_more bits from) (range_with_len from (to - from)) ≡ None
no_place bits from to left order r =
    find-none (closes_more bits from) from (to - from) (λ q a b. false_from_ne_true _ (λ t.
    let u = closes-below bits from q t in
    let v = r.stays.above (q + 1) (omega arith) (omega arith) in
    omega (arith, ints, u, v)))

pub fault-none : (bits : List Bool) (from to left : ℕ) → from ≤ to → Rests bits (excess bits from -ℤ pos 1) from to 1 left → left ≡ 1 → balance_fault bits from to ≡ None
unfolding balance_fault excess
fault-none bits from to left order r e =
    let f = no_place bits from to left order r in
    let l = r.level in
    let g : (rank true bits to + rank false bits from == rank false bits to + rank true bits from) ≡ true = eq-eqb _ _ (omega (arith, ints, l, e)) in
    rw (f, g) refl

pub fault-end : (bits : List Bool) (from to left : ℕ) → from ≤ to → Rests bits (excess bits from -ℤ pos 1) from to 1 left → left ≢ 1 → balance_fault bits from to ≡ Some to
unfolding balance_fault excess
fault-end bits from to left order r ne =
    let f = no_place bits from to left order r in
    let l = r.level in
    let g : (rank true bits to + rank false bits from == rank false bits to + rank true bits from) ≡ false = false_from_ne_true _ (λ t. let e = eqb-true _ _ t in ne (omega (arith, ints, l, e))) in
    rw (f, g) refl
