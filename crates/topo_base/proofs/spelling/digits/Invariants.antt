use Rattle.std.proofs.Common.{◌≡◌, ◌≤◌, drop}
use Rattle.topo_base.specs.Spelling.{digits_behind}
use Rattle.topo_base.specs.declared.id.TheConstants.{LARGEST_ID}
use Rattle.topo_base.proofs.spelling.digits.Given as goal

-- what is left goes on behind the number so far
abbrev pub invariant-loop-b : goal.invariant-loop-b
invariant-loop-b l =
    record {
      rest : digits_behind l.number (drop l.b-index l.bytes) ≡ digits_behind 0 l.bytes;
      bound : l.number ≤ LARGEST_ID;
    }
