use Rattle.std.proofs.Common.{◌≡◌, take}
use Rattle.std.specs.List.{filter_map}
use Rattle.map_build.specs.Placed.{placed_node}
use Rattle.map_build.proofs.places.FacePlaces.of_nodes.Given as goal

abbrev pub invariant-loop-row : goal.invariant-loop-row
invariant-loop-row l = l.standing.items ≡ filter_map (placed_node l.self.faces.now) (take l.row l.nodes)
