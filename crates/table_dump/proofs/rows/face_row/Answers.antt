use Rattle.std.proofs.Common.{◌+◌, ℕ, List, length, arith, ap}
use Rattle.bit_words.specs.Digits.{digits}
use Rattle.plane_model.specs.declared.rows.FaceRow.{FaceRow}
use Rattle.pemb_file.specs.Served.{contents_of_view}
use Rattle.navigate.proofs.Facts.{digits_faces}
use Rattle.table_dump.proofs.Ranked.{id_placed}
use Rattle.table_dump.proofs.rows.face_row.Goals as goal

pub id_at-requires : goal.id_at-requires
id_at-requires g c = let many = ap (λ (xs : List ℕ). length xs) c.faces.ensures in omega (arith, many, c.requires)

pub returns-clause-row : goal.returns-clause-row
returns-clause-row g c =
    let m = contents_of_view c.args.served in
    let row : ℕ → FaceRow = λ id. record { id = id } in
    ap row (id_placed c.faces.result.now m.faces c.args.place c.id_at.result c.faces.ensures c.requires c.id_at.ensures.id)

pub returns-clause-cost : goal.returns-clause-cost
returns-clause-cost g c =
    let d = digits_faces (contents_of_view c.args.served) c.args.served.whole in
    let same = ap (λ (xs : List ℕ). digits (length xs + 2)) c.faces.ensures in
    omega (arith, d, same, c.id_at.ensures.cost)
