use Rattle.std.proofs.Common.{arith, ◌∙◌, ap}
use Rattle.file_laws.specs.MapOfFile.{signed_at}
use Rattle.pemb_file.specs.Served.{contents_of_view}
use Rattle.navigate.proofs.Facts.{words_line}
use Rattle.navigate.proofs.MapLists.{next_of}
use Rattle.navigate.proofs.OrbitLengths.{some_digits}
use Rattle.navigate.proofs.look_ups.next.Goals as goal

pub returns-in_default-clause-paid : goal.returns-in_default-clause-paid
returns-in_default-clause-paid g c =
    let d = some_digits (contents_of_view c.args.served) in
    let words = words_line (contents_of_view c.args.served) c.args.served.whole 0 0 in
    omega (arith, d, words, c.in_default.ensures.cost)

pub returns-clause-next : goal.returns-clause-next
returns-clause-next g c =
    let m = contents_of_view c.args.served in
    c.edge_at.ensures.edge ∙ ap (signed_at m) c.step_from-next.ensures.step
    ∙ next_of m c.args.served.whole c.in-Some.first c.in-Some.is_own c.args.edge c.in-Some.ensures.within c.in-Some.ensures.edge

pub returns-clause-paid : goal.returns-clause-paid
returns-clause-paid g c =
    let d = some_digits (contents_of_view c.args.served) in
    let words = words_line (contents_of_view c.args.served) c.args.served.whole 0 1 in
    omega (arith, d, words, c.in-Some.ensures.cost, c.step_from-next.ensures.cost, c.edge_at.ensures.cost)
