use Rattle.std.specs.List.{list_all}
use Rattle.std.proofs.Common.{◌≡◌, ◌&&◌, drop}
use Rattle.plane_model.specs.InRange.{is_face_id, is_id, is_none_or}
use Rattle.worked_maps.proofs.in_range.are_nodes_in_range.Given as goal

-- whether the rows that are left are in range tells whether all are
abbrev pub invariant-loop-row : goal.invariant-loop-row
invariant-loop-row l = list_all (λ r. is_id r.id && is_none_or is_face_id r.face) (drop l.row l.nodes) ≡ list_all (λ r. is_id r.id && is_none_or is_face_id r.face) l.nodes
