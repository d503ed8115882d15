use Rattle.std.proofs.Common.{◌≡◌, map, take}
use Rattle.std.specs.Prelude.{slice_index}
use Rattle.plane_model.specs.PlaneMap.{side}
use Rattle.rotation_check.specs.Darts.{map_of_rotation, signed_edge}
use Rattle.islands.proofs.placing.places.Given as goal

abbrev pub invariant-loop-start : goal.invariant-loop-start
invariant-loop-start l = record {
  darts : l.darts.items ≡ map (slice_index l.rings) (take l.start-index l.starts);
  faces : l.faces.items ≡ map (λ dart. side (map_of_rotation l.rotation) (signed_edge l.rotation.edges dart)) l.darts.items;
}
