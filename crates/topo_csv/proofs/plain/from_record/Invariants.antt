use Rattle.std.proofs.Common.{◌≡◌, IsTrue, [], length}
use Rattle.csv.specs.Machine.{next_record}
use Rattle.csv.specs.Reading.{default_config}
use Rattle.csv.specs.declared.parser.State.TheVariants as state
use Rattle.topo_csv.specs.Plain.{has_no_quote}
use Rattle.topo_csv.proofs.plain.from_record.Given as goal

-- the next record is that of all bytes
abbrev pub invariant-loop-byte : goal.invariant-loop-byte
invariant-loop-byte l = record {
  same : next_record default_config state.StartRecord [] [] l.left ≡ next_record default_config state.StartRecord [] [] l.bytes;
  plain : IsTrue (has_no_quote l.bytes) → IsTrue (has_no_quote l.left);
}

abbrev pub decreases-loop-byte : goal.decreases-loop-byte
decreases-loop-byte l = length l.left
