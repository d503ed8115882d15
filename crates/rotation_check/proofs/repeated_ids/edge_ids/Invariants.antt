use Rattle.std.specs.Prelude.{map}
use Rattle.std.proofs.Common.{◌≡◌, take}
use Rattle.rotation_check.proofs.repeated_ids.edge_ids.Given as goal

-- the ids of the rows so far
abbrev pub invariant-loop-place : goal.invariant-loop-place
invariant-loop-place l = l.ids.items ≡ map (λ r. r.id) (take l.place l.table)
