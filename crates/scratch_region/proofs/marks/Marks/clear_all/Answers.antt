use Rattle.scratch_region.specs.Marks.{is_marked}
use Rattle.scratch_region.proofs.Marking.{zero-bits}
use Rattle.scratch_region.proofs.marks.Marks.clear_all.Goals as goal

pub returns-clause-empty : goal.returns-clause-empty
unfolding is_marked
returns-clause-empty c = zero-bits c.zero.new.words c.zero.ensures
