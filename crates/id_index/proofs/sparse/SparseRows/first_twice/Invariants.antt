use Rattle.std.proofs.Common.{◌≡◌, ◌-◌, drop}
use Rattle.plane_model.specs.Orders.{first_pair}
use Rattle.id_index.specs.Entries.{ids_of}
use Rattle.id_index.proofs.sparse.SparseRows.first_twice.Given as goal

abbrev pub invariant-loop-place : goal.invariant-loop-place
invariant-loop-place l = first_pair (ids_of l.self.entries.items) ≡ first_pair (drop (l.place - 1) (ids_of l.self.entries.items))
