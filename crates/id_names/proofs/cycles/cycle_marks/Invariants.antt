use Rattle.id_names.proofs.Sweeping.{IsSwept}
use Rattle.id_names.proofs.cycles.cycle_marks.Given as goal

-- the cycles of the numbers so far are visited and have their pointers
abbrev pub invariant-loop-first : goal.invariant-loop-first
invariant-loop-first l = IsSwept l.places l.stride l.first l.visited.items l.marks.items
