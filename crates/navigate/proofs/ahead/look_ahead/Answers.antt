use Rattle.std.proofs.Common.{arith}
use Rattle.pemb_file.specs.OpenFile.{contents_of_file}
use Rattle.navigate.proofs.Facts.{digits_nodes, digits_edges, digits_faces, digits_line}
use Rattle.navigate.proofs.OrbitLengths.{some_digits}
use Rattle.navigate.proofs.ahead.look_ahead.Goals as goal

pub returns-clause-paid : goal.returns-clause-paid
returns-clause-paid g c =
    let m = contents_of_file c.args.file.now in
    let w = c.args.file.now.whole in
    omega (arith, digits_nodes m w, digits_edges m w, digits_faces m w, digits_line m w, some_digits m, c.look_ahead.ensures.cost)
