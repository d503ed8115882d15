use Rattle.disjoint_sets.proofs.Numbering.{AreNumbered}
use Rattle.disjoint_sets.proofs.links.number_sets.Given as goal

-- the members so far have their numbers
abbrev pub invariant-loop-member : goal.invariant-loop-member
invariant-loop-member l = AreNumbered l.fn.links l.links l.member l.count
