use Rattle.std.proofs.Common.{◌≡◌, ◌+◌, ◌<◌, drop, bytes_eq, length}
use Prim.Native.Nat.{◌^◌}
use Rattle.std.specs.List.{filter}
use Rattle.csv.specs.Records.{fields_of}
use Rattle.topo_csv.proofs.header.times.Given as goal

abbrev pub invariant-loop-field : goal.invariant-loop-field
invariant-loop-field l = record {
  row : l.field-iterator.row.now ≡ l.names;
  counted : l.times + length (filter (bytes_eq l.name) (drop l.field-iterator.at (fields_of l.names))) ≡ length (filter (bytes_eq l.name) (fields_of l.names));
  fits : length (filter (bytes_eq l.name) (fields_of l.names)) < 2 ^ 64;
}
