use Rattle.bit_words.proofs.Streams.{Packs-none}
use Rattle.bit_words.proofs.packed_maker.PackedMaker.with_room.Goals as goal

pub invariant_of-result : goal.invariant_of-result
invariant_of-result c = rw c.in-Ok.ensures.items (Packs-none c.args.width c.requires.some c.requires.narrow)
