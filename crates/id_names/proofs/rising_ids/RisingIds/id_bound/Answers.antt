use Rattle.std.proofs.Common.{◌≡◌, ◌+◌, ◌^◌, length, ap, ◌∙◌, arith}
use Rattle.std.proofs.lemmas.Nat.{one_shl}
use Rattle.bit_words.specs.Digits.{digits}
use Rattle.bit_words.specs.PackedView.{fields_of, width_of}
use Rattle.id_names.proofs.rising_ids.RisingIds.id_bound.Goals as goal

pub overflow_shl-result : goal.overflow_shl-result
overflow_shl-result c =
    let d : c.binary_digits.result ≡ digits (length (fields_of c.args.self.now.lows)) = c.binary_digits.ensures.count ∙ ap digits c.count.ensures in
    omega (arith, d, c.width.ensures, c.args.self.now.narrow)

pub returns : goal.returns
returns c =
    let d : c.binary_digits.result ≡ digits (length (fields_of c.args.self.now.lows)) = c.binary_digits.ensures.count ∙ ap digits c.count.ensures in
    let e : c.binary_digits.result + c.width.result ≡ digits (length (fields_of c.args.self.now.lows)) + width_of c.args.self.now.lows = omega (arith, d, c.width.ensures) in
    one_shl (c.binary_digits.result + c.width.result) 64 (omega (arith, e, c.args.self.now.narrow)) ∙ ap (λ n. 2 ^ n) e
