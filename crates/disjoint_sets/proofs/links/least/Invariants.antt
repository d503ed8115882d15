use Rattle.disjoint_sets.proofs.Leading.{IsLed}
use Rattle.disjoint_sets.proofs.links.least.Given as goal

-- the place is on the way to the least number
abbrev pub invariant-loop-links : goal.invariant-loop-links
invariant-loop-links l = IsLed l.fn.links l.links l.member l.place

abbrev pub decreases-loop-links : goal.decreases-loop-links
decreases-loop-links l = l.place
