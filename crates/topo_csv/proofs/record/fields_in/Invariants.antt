use Rattle.std.proofs.Common.{◌≡◌, ◌+◌, ◌-◌, length, map, take}
use Rattle.csv.specs.Records.{fields_of}
use Rattle.topo_csv.specs.Texts.{text_of}
use Rattle.topo_csv.proofs.record.fields_in.Given as goal

-- the fields so far
abbrev pub invariant-loop-text : goal.invariant-loop-text
invariant-loop-text l = record {
  row : (l.text-iterator).row.now ≡ l.row;
  done : map text_of l.fields.items ≡ take (l.text-iterator).at (fields_of l.row);
}

abbrev pub decreases-loop-text : goal.decreases-loop-text
decreases-loop-text l = length (fields_of l.row) + 1 - (l.text-iterator).at
