use Rattle.std.proofs.Common.{arith, length}
use Rattle.pemb_file.specs.Served.{contents_of_view}
use Rattle.navigate.specs.FaceWalk.{rest}
use Rattle.navigate.proofs.Facts.{words_line}
use Rattle.navigate.proofs.OrbitLengths.{some_digits}
use Rattle.navigate.proofs.ShellLaws.{face_fits}
use Rattle.navigate.proofs.faces.face_walk.Goals as goal

pub returns-in-Some-clause-paid : goal.returns-in-Some-clause-paid
returns-in-Some-clause-paid g c =
    let m = contents_of_view c.args.served in
    let n = length (rest c.rings_at.result) in
    let words = words_line m c.args.served.whole n n in
    let fits = face_fits m c.rings_at.result c.args.steps.now c.place_of.new.steps c.rings_at.new.steps c.rings_at.ensures.contents c.in-Some.ensures.cost c.rings_at.ensures.cost in
    omega (arith, words, fits)

pub returns-in-None-clause-paid : goal.returns-in-None-clause-paid
returns-in-None-clause-paid g c =
    let d = some_digits (contents_of_view c.args.served) in
    let words = words_line (contents_of_view c.args.served) c.args.served.whole 0 0 in
    omega (arith, d, words, c.in-None.ensures.cost)
