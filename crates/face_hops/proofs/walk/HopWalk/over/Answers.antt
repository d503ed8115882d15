use Rattle.std.proofs.Common.{arith, refl, ap, ◌∙◌, Some}
use Rattle.scratch_region.specs.Numbers.{numbers_of}
use Rattle.pemb_file.specs.Served.{contents_of_view}
use Rattle.face_hops.specs.HopWalk.{way, rest, allowance}
use Rattle.face_hops.proofs.Ahead.{small_number}
use Rattle.face_hops.proofs.Stepping.{distance_at}
use Rattle.face_hops.proofs.walk.HopWalk.over.Goals as goal

pub overflow_cast-result : goal.overflow_cast-result
overflow_cast-result c =
    let m = contents_of_view c.args.served in
    let small = small_number m c.args.served.whole c.args.to c.args.place (numbers_of c.args.distances) c.requires.distances c.requires.place in
    omega (arith, small)

pub returns-clause-list : goal.returns-clause-list
unfolding way rest
returns-clause-list c = refl

pub returns-clause-moves : goal.returns-clause-moves
returns-clause-moves c =
    let m = contents_of_view c.args.served in
    let d = distance_at m c.args.served.whole c.args.to c.args.place (numbers_of c.args.distances) c.requires.distances c.requires.place c.requires.to in
    let is = d.2 in
    d.1 ∙ ap Some (omega (arith, is))

pub returns-clause-paid : goal.returns-clause-paid
unfolding way rest allowance
returns-clause-paid c = refl
