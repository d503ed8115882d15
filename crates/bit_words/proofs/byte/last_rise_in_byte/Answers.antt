use Rattle.bit_words.proofs.ByteSearches.{rise_told, no_rise}
use Rattle.bit_words.proofs.byte.last_rise_in_byte.Goals as goal

pub returns-then-need-gt8 : goal.returns-then-need-gt8
returns-then-need-gt8 c = no_rise c.args.byte c.args.need c.if-need-gt8.true

pub returns-then-place-lt8 : goal.returns-then-place-lt8
returns-then-place-lt8 c =
    let e = c.rise_entry-place.ensures in
    rw e ((rise_told c.args.byte c.args.need).0 (rw e at c.if-place-lt8.true))

pub returns-else-place-lt8 : goal.returns-else-place-lt8
returns-else-place-lt8 c = (rise_told c.args.byte c.args.need).1 (rw c.rise_entry-place.ensures at c.if-place-lt8.false)
