use Rattle.std.proofs.Common.{◌≡◌, ◌≤◌, ◌^◌, arith, lit<, ap}
use Rattle.std.proofs.Math.Nat.{pow-le-pow_right}
use Rattle.bit_words.specs.Digits.{digits}
use Rattle.bit_words.proofs.DigitLaws.{digits-pow}
use Rattle.pemb_file.proofs.name_sections.high_parts.Goals as goal

pub overflow_shl-result : goal.overflow_shl-result
overflow_shl-result c = let d = digits-pow c.args.names 66 c.requires in omega (arith, d, c.binary_digits.ensures.count)

pub returns-clause-parts : goal.returns-clause-parts
returns-clause-parts c =
    let d = digits-pow c.args.names 66 c.requires in
    let p : 2 ^ digits c.args.names ≤ 2 ^ 66 = pow-le-pow_right (lit< tt) d in
    let e : 2 ^ c.binary_digits.result ≡ 2 ^ digits c.args.names = ap (λ k. 2 ^ k) c.binary_digits.ensures.count in
    omega (arith, p, e)

pub returns-clause-few : goal.returns-clause-few
returns-clause-few c =
    let d = digits-pow c.args.names 66 c.requires in
    let p : 2 ^ digits c.args.names ≤ 2 ^ 66 = pow-le-pow_right (lit< tt) d in
    let e : 2 ^ c.binary_digits.result ≡ 2 ^ digits c.args.names = ap (λ k. 2 ^ k) c.binary_digits.ensures.count in
    omega (arith, p, e)
