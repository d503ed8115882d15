use Rattle.std.proofs.Common.{refl}
use Rattle.std.specs.Prelude.{slice_index}
use Rattle.pemb_file.specs.Served.{contents_of_view}
use Rattle.navigate.specs.Bound.{map_with}
use Rattle.region_border.specs.BorderWalk.{rest, given, allowance}
use Rattle.region_border.proofs.Resting.{between, begun-items, begun-given}
use Rattle.region_border.proofs.walk.BorderWalk.begin.Goals as goal

pub invariant_of-result-clause-standing : goal.invariant_of-result-clause-standing
invariant_of-result-clause-standing c = let k = contents_of_view c.args.served in between (map_with k) (slice_index k.regions c.args.region) 0

pub returns-clause-list : goal.returns-clause-list
unfolding rest
returns-clause-list c = let k = contents_of_view c.args.served in begun-items (map_with k) (slice_index k.regions c.args.region)

pub returns-clause-given : goal.returns-clause-given
unfolding given rest
returns-clause-given c = let k = contents_of_view c.args.served in begun-given (map_with k) (slice_index k.regions c.args.region)

pub returns-clause-paid : goal.returns-clause-paid
unfolding allowance
returns-clause-paid c = refl
