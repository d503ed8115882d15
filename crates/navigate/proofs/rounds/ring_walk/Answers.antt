use Rattle.std.proofs.Common.{arith, ◌∙◌, length}
use Rattle.code_laws.specs.Orbits.{orbit}
use Rattle.std.proofs.Common.{false}
use Rattle.pemb_file.specs.Served.{contents_of_view}
use Rattle.navigate.specs.OrbitWalk.{rest}
use Rattle.navigate.proofs.Facts.{words_line}
use Rattle.navigate.proofs.Resting.{rest-at}
use Rattle.navigate.proofs.MapLists.{ring_at}
use Rattle.navigate.proofs.OrbitLengths.{some_digits, walk_made}
use Rattle.navigate.proofs.rounds.ring_walk.Goals as goal

pub returns-in-Some-clause-list : goal.returns-in-Some-clause-list
returns-in-Some-clause-list g c =
    let m = contents_of_view c.args.served in
    rest-at c.from.result m (orbit m.code false c.in-Some.p) c.from.ensures.contents c.from.ensures.positions ∙ ring_at m c.args.served.whole c.in-Some.p c.args.edge c.in-Some.ensures.within c.in-Some.ensures.edge

pub returns-in-Some-clause-paid : goal.returns-in-Some-clause-paid
returns-in-Some-clause-paid g c =
    let m = contents_of_view c.args.served in
    let d = some_digits m in
    let n = length (rest c.from.result) in
    let words = words_line m c.args.served.whole n n in
    let walk = walk_made c.from.result m c.position_of.new.steps c.from.ensures.contents in
    omega (arith, d, words, walk, c.in-Some.ensures.cost)

pub returns-in-None-clause-paid : goal.returns-in-None-clause-paid
returns-in-None-clause-paid g c =
    let d = some_digits (contents_of_view c.args.served) in
    let words = words_line (contents_of_view c.args.served) c.args.served.whole 0 0 in
    omega (arith, d, words, c.in-None.ensures.cost)
