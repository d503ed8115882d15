use Rattle.std.proofs.Common.{arith}
use Rattle.rotation_check.proofs.CountLemmas.{places_next}
use Rattle.rotation_check.proofs.counts.place_each.Goals as goal

pub loop-place-preserved : goal.loop-place-preserved
loop-place-preserved c = places_next c.args.values.now c.args.bound c.loop-place.place c.loop-place.places.items (omega arith) (c.requires.below c.loop-place.place (omega arith)) c.loop-place.invariant
