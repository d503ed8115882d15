use Rattle.std.proofs.Common.{arith, ap, ◌++◌, length}
use Rattle.plane_model.specs.Lists.{face_edges}
use Rattle.pemb_file.specs.Served.{contents_of_view}
use Rattle.navigate.specs.Bound.{served_map, line_words}
use Rattle.navigate.specs.AdjacentWalk.{rest}
use Rattle.navigate.proofs.Facts.{words_line}
use Rattle.navigate.proofs.OrbitLengths.{some_digits}
use Rattle.navigate.proofs.neighbours.adjacent_walk_begun.Goals as goal

pub returns-in-Some-clause-paid : goal.returns-in-Some-clause-paid
returns-in-Some-clause-paid g c =
    let m = contents_of_view c.args.served in
    let listed = length (c.begun_beside.new.faces.items ++ rest c.begun_beside.result) in
    let face = ap (λ f. line_words m (length (face_edges (served_map c.args.served) f)) listed) c.in-Some.ensures.found.1 in
    let words = words_line m c.args.served.whole (length (face_edges (served_map c.args.served) c.args.face.0)) listed in
    omega (arith, face, words, c.begun_beside.ensures.paid, c.in-Some.ensures.cost)

pub returns-in-None-clause-paid : goal.returns-in-None-clause-paid
returns-in-None-clause-paid g c =
    let d = some_digits (contents_of_view c.args.served) in
    let words = words_line (contents_of_view c.args.served) c.args.served.whole 0 0 in
    omega (arith, d, words, c.in-None.ensures.cost)
