use Rattle.std.proofs.Common.{length, arith}
use Rattle.bit_words.specs.PackedView.{fields_of}
use Rattle.id_names.proofs.DigitBounds.{nine_digits}
use Rattle.id_names.proofs.rising_ids.RisingIds.span.Goals as goal

pub returns-clause-cost : goal.returns-clause-cost
returns-clause-cost g c =
    let nine = nine_digits (length (fields_of c.args.self.now.lows)) (omega (arith, c.if-to-from-lt256.false, c.bucket-from.ensures.places.count)) in
    omega (arith, nine, c.bucket-from.ensures.cost, c.field.ensures.few_steps, c.field-2.ensures.few_steps)
