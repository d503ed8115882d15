-- What a walk reads fits the words of a line.
use Rattle.std.proofs.Common.{ℕ, ◌+◌, ◌*◌, ◌≤◌, arith}
use Rattle.std.proofs.Math.Nat.{mul-le-mul_left}
use Rattle.file_laws.specs.Contents.{Contents}
use Rattle.navigate.specs.Bound.{line_digits, line_words}
use Rattle.navigate.proofs.OrbitLengths.{some_digits}

-- making a walk and reading its n items, each at a price
pub items_fit : (c : Contents) (price n first last : ℕ) → price ≤ 256 * line_digits c → last ≤ first + (28 * line_digits c + 60) → last + price * n ≤ first + line_words c 0 n
items_fit c price n first last low h =
    let d = line_digits c in
    let two = some_digits c in
    let each : n * price ≤ n * (256 * d) = mul-le-mul_left n low in
    omega (arith, each, two, h)
