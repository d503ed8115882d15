use Rattle.std.proofs.Common.{◌≡◌, ◌<◌, ◌^◌, Some, take}
use Rattle.std.specs.Char.{is_ascii_digit}
use Rattle.std.specs.List.{list_all}
use Rattle.topo_base.specs.Spelling.{digits_behind}
use Rattle.query_text.proofs.first.eight_digits.Given as goal

-- whether the bytes so far are digits
abbrev pub invariant-loop-byte : goal.invariant-loop-byte
invariant-loop-byte l = (l.digits ≡ list_all is_ascii_digit (take l.byte-index l.bytes))

-- the digits so far spell the number so far, which has no more of them than these
abbrev pub invariant-loop-byte-2 : goal.invariant-loop-byte-2
invariant-loop-byte-2 l =
    record {
      spells : digits_behind 0 (take l.byte-index l.bytes) ≡ Some l.number;
      small : l.number < 10 ^ l.byte-index;
    }
