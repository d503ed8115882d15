-- What is wrong with the faces on the left of darts.
use Rattle.std.specs.Prelude.{Option}
use Rattle.topo_base.specs.declared.refusal.Refusal.{Refusal}
use Rattle.plane_model.specs.Faults.{first_in, either_way, mixed_ring}
use Rattle.rotation_check.specs.Darts.{RotationRows, map_of_rotation}

-- the first signed edge, by the rows of edges, whose next has another face on its left
abbrev pub label_fault : RotationRows → Option Refusal
label_fault r = first_in (either_way (mixed_ring (map_of_rotation r))) r.edges
