use Rattle.std.proofs.Common.{◌≡◌, map}
use Rattle.std.specs.List.{range_with_len}
use Rattle.id_names.proofs.InRuns.{id_of}
use Rattle.id_names.proofs.tests.make.ids_in_runs.Given as goal

abbrev pub invariant-loop-number : goal.invariant-loop-number
invariant-loop-number l = l.ids.items ≡ map id_of (range_with_len 0 l.number)
