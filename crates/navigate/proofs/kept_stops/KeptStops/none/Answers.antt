use Rattle.std.proofs.Common.{arith}
use Rattle.navigate.proofs.kept_stops.KeptStops.none.Goals as goal

pub returns : goal.returns
returns c names contents kind j d none = absurd (omega (arith, none))
