use Rattle.std.proofs.Common.{◌≡◌, ◌-◌, ◌<◌, ◌≤◌, ◌^◌, take, Some}
use Rattle.topo_base.specs.Spelling.{digits_behind}
use Rattle.topo_csv.proofs.plain.front_digits.Given as goal

-- the digits so far make the number
abbrev pub invariant-loop-count : goal.invariant-loop-count
invariant-loop-count l = record {
  within : l.count ≤ l.most;
  spelled : digits_behind 0 (take l.count l.bytes) ≡ Some l.number;
  small : l.number < 10 ^ l.count;
}

abbrev pub decreases-loop-count : goal.decreases-loop-count
decreases-loop-count l = l.most - l.count
