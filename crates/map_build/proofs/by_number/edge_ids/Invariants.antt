use Rattle.std.proofs.Common.{true, length, slice_index}
use Rattle.map_build.specs.DartRows.{row_at}
use Rattle.map_build.proofs.Filling.{AreFilling}
use Rattle.map_build.proofs.by_number.edge_ids.Given as goal

abbrev pub invariant-loop-p : goal.invariant-loop-p
invariant-loop-p l = AreFilling (slice_index l.numbers) (λ p. (row_at l.edges (slice_index l.darts p)).id) (λ _. true) (length l.edges) l.p l.ids.items
