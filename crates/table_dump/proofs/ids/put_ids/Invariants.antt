use Rattle.std.specs.Prelude.{take}
use Rattle.std.proofs.Common.{◌≡◌, ◌≤◌, ◌+◌, ◌*◌, length}
use Rattle.bit_words.specs.Digits.{digits}
use Rattle.scratch_region.specs.Numbers.{numbers_of}
use Rattle.id_names.specs.Views.{ids_of}
use Rattle.table_dump.proofs.ids.put_ids.Given as goal

abbrev pub invariant-loop-number : goal.invariant-loop-number
invariant-loop-number g l =
    record {
      size : length (numbers_of l.ids) ≡ length (numbers_of l.fn.ids);
      same : take l.number (numbers_of l.ids) ≡ take l.number (ids_of l.names);
      read : l.fn.steps ≤ l.steps;
      paid : l.steps ≤ l.fn.steps + l.number * (3 * digits (length (ids_of l.names) + 2) + 20);
    }
