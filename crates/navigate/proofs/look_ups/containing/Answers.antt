use Rattle.std.proofs.Common.{arith}
use Rattle.pemb_file.specs.Served.{contents_of_view}
use Rattle.navigate.proofs.Facts.{words_line}
use Rattle.navigate.proofs.OrbitLengths.{some_digits}
use Rattle.navigate.proofs.look_ups.containing.Goals as goal

pub returns-in_default-clause-paid : goal.returns-in_default-clause-paid
returns-in_default-clause-paid g c =
    let d = some_digits (contents_of_view c.args.served) in
    let words = words_line (contents_of_view c.args.served) c.args.served.whole 0 0 in
    omega (arith, d, words, c.in_default.ensures.cost)

pub returns-clause-paid : goal.returns-clause-paid
returns-clause-paid g c =
    let d = some_digits (contents_of_view c.args.served) in
    let words = words_line (contents_of_view c.args.served) c.args.served.whole 0 1 in
    omega (arith, d, words, c.in-Some.ensures.cost, c.place_of_node-place.ensures.cost, c.face_in.ensures.cost)
