use Rattle.std.proofs.Common.{length, map}
use Rattle.topo_csv.specs.Texts.{text_of}
use Rattle.topo_csv.proofs.Cutting.{IsAhead}
use Rattle.topo_csv.proofs.plain.plain_record.Given as goal

-- the fields so far, and the bytes behind them
abbrev pub invariant-loop-end : goal.invariant-loop-end
invariant-loop-end l = IsAhead l.bytes (map text_of l.fields.items) l.left

abbrev pub decreases-loop-end : goal.decreases-loop-end
decreases-loop-end l = length l.left
