use Rattle.std.proofs.Common.{arith, ◌+◌, ◌++◌, ap, length}
use Rattle.pemb_file.specs.Served.{contents_of_view}
use Rattle.navigate.specs.FaceWalk.{rest, allowance}
use Rattle.navigate.specs.FirstEdges.{edges_in}
use Rattle.navigate.proofs.Facts.{words_line}
use Rattle.navigate.proofs.OrbitLengths.{some_digits}
use Rattle.navigate.proofs.BegunWalks.{begun_fits}
use Rattle.navigate.proofs.faces.face_walk_begun.Goals as goal

pub returns-in-Some-clause-least : goal.returns-in-Some-clause-least
returns-in-Some-clause-least g c = omega (arith, c.in-Some.ensures.grows, c.rings_begun.ensures.least)

pub returns-in-Some-clause-paid : goal.returns-in-Some-clause-paid
returns-in-Some-clause-paid g c =
    let m = contents_of_view c.args.served in
    let walk = c.rings_begun in
    let n = length (edges_in walk.new.edges ++ rest walk.result) in
    let words = words_line m c.args.served.whole n n in
    let fits = begun_fits m n c.args.steps.now c.place_of.new.steps (walk.new.steps + allowance walk.result) c.in-Some.ensures.cost walk.ensures.paid in
    omega (arith, words, fits)

pub returns-in-None-clause-least : goal.returns-in-None-clause-least
returns-in-None-clause-least g c = let none = ap length c.clear.ensures in omega (arith, none, c.in-None.ensures.grows)

pub returns-in-None-clause-paid : goal.returns-in-None-clause-paid
returns-in-None-clause-paid g c =
    let d = some_digits (contents_of_view c.args.served) in
    let words = words_line (contents_of_view c.args.served) c.args.served.whole 0 0 in
    omega (arith, d, words, c.in-None.ensures.cost)
