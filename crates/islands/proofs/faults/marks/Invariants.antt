use Rattle.std.proofs.Common.{take}
use Rattle.islands.proofs.Found.{AreMarksOf}
use Rattle.islands.proofs.faults.marks.Given as goal

abbrev pub invariant-loop-number : goal.invariant-loop-number
invariant-loop-number l = AreMarksOf (take l.number-index l.numbers) l.count l.marks.items
