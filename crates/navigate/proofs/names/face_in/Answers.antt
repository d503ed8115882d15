use Rattle.std.proofs.Common.{arith, ap, ◌+◌, ℕ, List, length}
use Rattle.bit_words.specs.Digits.{digits}
use Rattle.pemb_file.specs.Served.{contents_of_view}
use Rattle.navigate.proofs.Facts.{digits_faces}
use Rattle.navigate.proofs.names.face_in.Goals as goal

pub returns-clause-cost : goal.returns-clause-cost
returns-clause-cost g c =
    let d = digits_faces (contents_of_view c.args.served) c.args.served.whole in
    let same = ap (λ (xs : List ℕ). digits (length xs + 2)) c.faces-faces.ensures in
    omega (arith, d, same, c.id_of.ensures.cost)
