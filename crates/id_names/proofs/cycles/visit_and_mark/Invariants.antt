use Rattle.std.proofs.Common.{length}
use Rattle.std.specs.Prelude.{◌-◌}
use Rattle.id_names.specs.Cycles.{cycle}
use Rattle.id_names.proofs.Visiting.{IsVisiting, passed}
use Rattle.id_names.proofs.Marking.{IsMarking, IsMarkingLast}
use Rattle.id_names.proofs.cycles.visit_and_mark.Given as goal

-- the members that the walks have passed are visited, and those of the first walk have their pointers
abbrev pub invariant-loop-visited : goal.invariant-loop-visited
invariant-loop-visited l =
    let members = cycle l.places l.first in
    record {
      visiting : IsVisiting members l.first (passed members l.first l.member) l.member l.end l.behind.items l.fn.visited l.visited;
      marking : IsMarking l.stride members (passed members l.first l.member) l.marker l.fn.marks l.marks;
    }

abbrev pub decreases-loop-visited : goal.decreases-loop-visited
decreases-loop-visited l = length (cycle l.places l.first) - passed (cycle l.places l.first) l.first l.member

-- all but those behind have their pointers
abbrev pub invariant-loop-member : goal.invariant-loop-member
invariant-loop-member l = IsMarkingLast l.stride (cycle l.places l.first) l.behind.items l.marker l.fn.marks l.marks

abbrev pub decreases-loop-member : goal.decreases-loop-member
decreases-loop-member l = length l.behind.items
