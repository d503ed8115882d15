use Rattle.euler_check.specs.Counts.{AreCounted}
use Rattle.euler_check.specs.Marks.{number_at}
use Rattle.euler_check.proofs.euler_counts.count_parts.Given as goal

-- the parts so far are counted
abbrev pub invariant-loop-part : goal.invariant-loop-part
invariant-loop-part l = AreCounted l.fn.parts (number_at l.fn.numbers) l.part-index l.counts.items
