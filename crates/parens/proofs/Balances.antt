-- Balanced places, by ranks and by the excess.
use Rattle.std.specs.Prelude.{find, is_none, pos, ◌≤ℤ◌, IsTrue}
use Rattle.std.proofs.Common.{◌≡◌, ℕ, ◌+◌, ◌-◌, ◌≤◌, inl, inr, Bool, true, false, List, length, refl, arith, Option, Some, None, ◌==◌}
use Rattle.std.specs.List.{range_with_len}
use Rattle.std.proofs.lemmas.Bool.{cases_lt, eqb-true, ltb-false}
use Rattle.std.proofs.lemmas.Int.{ints}
use Rattle.bit_words.specs.Bits.{rank, excess}
use Rattle.bit_words.proofs.Ranks.{rank-zero}
use Rattle.bit_words.proofs.Finds.{none-find}
use Rattle.parens.specs.Matching.{closes_more, or_end, balance_fault, is_balanced}

-- each closing place has a mate, and in the end none is open
pub record IsBalanced (bits : List Bool) : Type 0 where
  pub low : (p : ℕ) → p ≤ length bits → pos 0 ≤ℤ excess bits p
  pub end : excess bits (length bits) ≡ pos 0

pub end-parts : (o : Option ℕ) (even : Bool) (to : ℕ) → or_end o even to ≡ None → (o ≡ None) × (even ≡ true)
end-parts None true to h = (refl, refl)
end-parts None false to h = cc
end-parts (Some p) even to h = cc

none-of : (o : Option ℕ) → IsTrue (is_none o) → o ≡ None
none-of None h = refl
none-of (Some x) h = cc

pub balanced-from : (bits : List Bool) → balance_fault bits 0 (length bits) ≡ None → IsBalanced bits
unfolding balance_fault excess
balanced-from bits h =
    let n = length bits in
    let p = end-parts (find (closes_more bits 0) (range_with_len 0 (n - 0))) (rank true bits n + rank false bits 0 == rank false bits n + rank true bits 0) n h in
    let t = rank-zero true bits in
    let f = rank-zero false bits in
    let e = eqb-true _ _ p.1 in
    record {
      low = λ q l. elim (cases_lt 0 q) [
        | inl m ↦
            let v = ltb-false _ _ (none-find (closes_more bits 0) 0 (n - 0) p.0 (q - 1) (omega arith) (omega arith)) in
            let k : q - 1 + 1 ≡ q = omega arith in
            let g : rank false bits q + rank true bits 0 ≤ rank true bits q + rank false bits 0 = rw k at v in
            omega (arith, ints, g, t, f)
        | inr m ↦ let z : q ≡ 0 = omega arith in rw z (omega (arith, ints, t, f))
      ];
      end = omega (arith, ints, e, t, f);
    }

pub balanced : (bits : List Bool) → IsTrue (is_balanced bits 0 (length bits)) → IsBalanced bits
balanced bits h = balanced-from bits (none-of (balance_fault bits 0 (length bits)) h)

pub balanced-none : (bits : List Bool) (from to : ℕ) → balance_fault bits from to ≡ None → IsTrue (is_balanced bits from to)
balanced-none bits from to h = rw h refl
