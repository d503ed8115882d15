use Rattle.std.proofs.Common.{◌-◌, slice_index, nat_lt}
use Rattle.map_build.specs.DartRows.{face_of_dart}
use Rattle.map_build.proofs.Filling.{AreFilling}
use Rattle.map_build.proofs.by_number.face_ids.Given as goal

abbrev pub invariant-loop-p : goal.invariant-loop-p
invariant-loop-p l = AreFilling (λ p. slice_index l.rings p - 1) (λ p. face_of_dart l.edges (slice_index l.darts p)) (λ p. nat_lt 0 (slice_index l.rings p)) l.count l.p l.ids.items
