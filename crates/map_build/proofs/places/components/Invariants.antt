use Rattle.std.proofs.Common.{◌≡◌, map}
use Rattle.std.specs.List.{range_with_len}
use Rattle.map_build.specs.DartRows.{key_of_dart}
use Rattle.map_build.specs.Placed.{placed_component}
use Rattle.map_build.proofs.places.components.Given as goal

abbrev pub invariant-loop-component : goal.invariant-loop-component
invariant-loop-component l = l.standing.items ≡ map (placed_component l.places (map (key_of_dart l.edges) l.starts)) (range_with_len 0 l.component)
