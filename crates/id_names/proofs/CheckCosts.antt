-- What a check of the parts of names costs.
use Rattle.std.proofs.Common.{◌≡◌, ℕ, ◌+◌, ◌*◌, ◌≤◌, ◌^◌, arith}
use Rattle.std.proofs.Math.Nat.{mul-le-mul_left, mul-le-mul_right}
use Rattle.bit_words.specs.Digits.{digits}
use Rattle.bit_words.proofs.DigitLaws.{digits-mono, digits-half}
use Rattle.id_names.proofs.DigitBounds.{power_few}

-- numbers from 2 on have two digits
pub two_digits : (c : ℕ) → 2 ≤ digits (c + 2)
two_digits c =
    let a = digits-half 2 (omega arith) in
    let b = digits-half 1 (omega arith) in
    omega (arith, digits-mono 2 (c + 2) (omega arith), a, b)

rows_few : (c l : ℕ) → 2 ≤ l → c * (9 * l + 36) ≤ 28 * (l * (c + 1))
rows_few c l h =
    let few : 9 * l + 36 ≤ 28 * l = omega arith in
    let rows : c * (9 * l + 36) ≤ c * (28 * l) = mul-le-mul_left c few in
    omega arith

-- all that a check reads
pub all_few : (c bits : ℕ) → bits ≡ c + 2 ^ digits c → bits + 8 + 9 + (bits + 2 * c) + (c + 8) + 9 + c * (9 * digits (c + 2) + 36) ≤ 64 * (digits (c + 2) * (c + 1))
all_few c bits e =
    let l = digits (c + 2) in
    let two : 2 ≤ l = two_digits c in
    let some : 2 * (c + 1) ≤ l * (c + 1) = mul-le-mul_right (c + 1) two in
    omega (arith, power_few c, rows_few c l two)

-- the bits of the high parts are few
pub bits_few : (c bits : ℕ) → bits ≡ c + 2 ^ digits c → c ≤ 16777216 → bits ≤ 2147483647
bits_few c bits e few = omega (arith, power_few c)
