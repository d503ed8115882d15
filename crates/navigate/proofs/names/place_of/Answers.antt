use Rattle.std.proofs.Common.{arith, ap, ◌+◌, ℕ, List, length, Some, None}
use Rattle.bit_words.specs.Digits.{digits}
use Rattle.id_names.specs.Views.{ids_of}
use Rattle.pemb_file.specs.Served.{contents_of_view}
use Rattle.navigate.proofs.Facts.{digits_faces, known_face}
use Rattle.navigate.proofs.names.place_of.Goals as goal

pub returns-in-Some-clause-known : goal.returns-in-Some-clause-known
returns-in-Some-clause-known g c =
    known_face (contents_of_view c.args.served) c.args.served.whole (ids_of c.faces-faces.result.now) c.args.face.0 (Some c.in-Some.number) c.faces-faces.ensures c.if-face-eq0.false c.in-Some.ensures.found

pub returns-in-Some-clause-cost : goal.returns-in-Some-clause-cost
returns-in-Some-clause-cost g c =
    let d = digits_faces (contents_of_view c.args.served) c.args.served.whole in
    let same = ap (λ (xs : List ℕ). digits (length xs + 2)) c.faces-faces.ensures in
    omega (arith, d, same, c.in-Some.ensures.cost)

pub returns-in-None-clause-known : goal.returns-in-None-clause-known
returns-in-None-clause-known g c =
    known_face (contents_of_view c.args.served) c.args.served.whole (ids_of c.faces-faces.result.now) c.args.face.0 None c.faces-faces.ensures c.if-face-eq0.false c.in-None.ensures.found

pub returns-in-None-clause-cost : goal.returns-in-None-clause-cost
returns-in-None-clause-cost g c =
    let d = digits_faces (contents_of_view c.args.served) c.args.served.whole in
    let same = ap (λ (xs : List ℕ). digits (length xs + 2)) c.faces-faces.ensures in
    omega (arith, d, same, c.in-None.ensures.cost)
