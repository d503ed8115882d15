use Rattle.std.proofs.Common.{◌≡◌, ◌<◌, ◌^◌, Some, take}
use Rattle.topo_base.specs.Spelling.{digits_behind}
use Rattle.query_text.proofs.first.ended_number.Given as goal

-- the digits so far spell the number so far, which has no more of them than these
abbrev pub invariant-loop-len : goal.invariant-loop-len
invariant-loop-len l =
    record {
      spells : digits_behind 0 (take l.len l.bytes) ≡ Some l.number;
      small : l.number < 10 ^ l.len;
    }
