use Rattle.std.proofs.Common.{◌≡◌, ◌≤◌, ◌+◌, ◌*◌, ◌-◌, map}
use Rattle.id_names.specs.Searches.{number_for, each_within, jumps_left}
use Rattle.id_names.proofs.searches.follow_four.Given as goal

abbrev pub invariant-loop : goal.invariant-loop
invariant-loop g l = record {
  left : each_within l.inverse (l.end - l.counter) l.searches ≡ map (number_for l.inverse) l.fn.places;
  grows : l.initial.steps ≤ l.steps;
  steps : l.steps + jumps_left l.searches ≤ l.initial.steps + 44 + 12 * l.counter;
}
