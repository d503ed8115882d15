use Rattle.navigate.proofs.KeptLaws.{same_stops}
use Rattle.navigate.proofs.kept_stops.KeptStops.turn_to.Goals as goal

pub returns : goal.returns
returns c names contents kind are = same_stops names contents kind _ _ _ _ c.loop-place.invariant.stops c.loop-place.invariant.count are
