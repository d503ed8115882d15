use Rattle.std.proofs.Common.{◌+◌, ◌<◌, ◌≡◌, drop, bytes_eq, position}
use Prim.Native.Nat.{◌^◌}
use Rattle.std.specs.List.{position_from}
use Rattle.csv.specs.Records.{fields_of}
use Rattle.topo_csv.proofs.header.place.Given as goal

abbrev pub invariant-loop-i : goal.invariant-loop-i
invariant-loop-i l = record {
  fits : l.i + (goal.iterator-loop-i).remaining l.field-iterator < 2 ^ 64;
  row : l.field-iterator.row.now ≡ l.names;
  at : l.field-iterator.at ≡ l.i;
  found : position_from (bytes_eq l.name) l.i (drop l.i (fields_of l.names)) ≡ position (bytes_eq l.name) (fields_of l.names);
}
