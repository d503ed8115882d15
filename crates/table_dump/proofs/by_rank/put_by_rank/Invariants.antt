use Rattle.std.proofs.Common.{◌≤◌, ◌+◌, ◌*◌}
use Rattle.scratch_region.specs.Numbers.{numbers_of}
use Rattle.table_dump.proofs.Ranked.{ArePut}
use Rattle.table_dump.proofs.by_rank.put_by_rank.Given as goal

abbrev pub invariant-loop-number : goal.invariant-loop-number
invariant-loop-number g l =
    record {
      put : ArePut l.names (numbers_of l.numbers) l.number;
      read : l.fn.steps ≤ l.steps;
      paid : l.steps ≤ l.fn.steps + 2 * l.number;
    }
