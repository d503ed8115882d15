use Rattle.bit_words.proofs.ByteSearches.{fall_told, no_fall}
use Rattle.bit_words.proofs.byte.first_fall_in_byte.Goals as goal

pub returns-then-need-gt8 : goal.returns-then-need-gt8
returns-then-need-gt8 c = no_fall c.args.byte c.args.need c.if-need-gt8.true

pub returns-then-place-le8 : goal.returns-then-place-le8
returns-then-place-le8 c =
    let e = c.fall_entry-place.ensures in
    rw e ((fall_told c.args.byte c.args.need).0 (rw e at c.if-place-le8.true))

pub returns-else-place-le8 : goal.returns-else-place-le8
returns-else-place-le8 c = (fall_told c.args.byte c.args.need).1 (rw c.fall_entry-place.ensures at c.if-place-le8.false)
