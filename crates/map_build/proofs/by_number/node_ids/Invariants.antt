use Rattle.std.proofs.Common.{true, slice_index}
use Rattle.map_build.specs.DartRows.{start_of_dart}
use Rattle.map_build.proofs.Filling.{AreFilling}
use Rattle.map_build.proofs.by_number.node_ids.Given as goal

abbrev pub invariant-loop-p : goal.invariant-loop-p
invariant-loop-p l = AreFilling (slice_index l.numbers) (λ p. start_of_dart l.edges (slice_index l.darts p)) (λ _. true) l.count l.p l.ids.items
