use Rattle.std.proofs.Common.{◌≡◌}
use Rattle.navigate.proofs.kept_stops.KeptStops.turn_to.Given as goal

abbrev pub invariant-loop-place : goal.invariant-loop-place
invariant-loop-place l = record {
  stops : l.self.stops ≡ l.fn.self.stops;
  count : l.self.count ≡ l.fn.self.count;
}
