use Rattle.std.proofs.Common.{◌≡◌, ◌+◌, ◌-◌, ◌≤◌, drop, length}
use Rattle.std.specs.List.{position_or_len}
use Rattle.topo_csv.specs.Plain.{ends_field}
use Rattle.topo_csv.proofs.plain.field_len.Given as goal

-- the field goes on up to here
abbrev pub invariant-loop-len : goal.invariant-loop-len
invariant-loop-len l = record {
  within : l.len ≤ length l.bytes;
  open_to : l.len + position_or_len ends_field (drop l.len l.bytes) ≡ position_or_len ends_field l.bytes;
}

abbrev pub decreases-loop-len : goal.decreases-loop-len
decreases-loop-len l = length l.bytes - l.len
