use Rattle.std.proofs.Common.{◌≡◌, ◌&&◌, true, length}
use Rattle.std.specs.List.{list_all}
use Rattle.plane_model.specs.InRange.{is_face_id, is_id, is_none_or}
use Rattle.spanning_pair.proofs.path_tests.path_nodes.Given as goal

abbrev pub invariant-loop-node : goal.invariant-loop-node
invariant-loop-node l = (list_all (λ r. is_id r.id && is_none_or is_face_id r.face) l.rows ≡ true) × (length l.rows ≡ l.node)
