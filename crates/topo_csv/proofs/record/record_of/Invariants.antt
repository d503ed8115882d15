use Rattle.std.proofs.Common.{◌≡◌, [], map, take}
use Rattle.csv.specs.Records.{fields_of, partial_of}
use Rattle.topo_csv.specs.Texts.{text_of}
use Rattle.topo_csv.proofs.record.record_of.Given as goal

-- the fields so far, and no other begun
abbrev pub invariant-loop-field : goal.invariant-loop-field
invariant-loop-field l = record {
  done : fields_of l.row ≡ map text_of (take l.field-index l.fields);
  begun : partial_of l.row ≡ [];
}
