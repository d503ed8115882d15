use Rattle.std.specs.Prelude.{slice_index}
use Rattle.std.proofs.Common.{◌+◌, ℕ, List, length, arith, ap, sym, ◌∙◌, Option}
use Rattle.bit_words.specs.Digits.{digits}
use Rattle.plane_model.specs.declared.rows.NodeRow.{NodeRow}
use Rattle.file_laws.specs.MapOfFile.{node_row}
use Rattle.pemb_file.specs.Served.{contents_of_view}
use Rattle.navigate.proofs.Facts.{w, digits_nodes}
use Rattle.table_dump.proofs.AtRanks.{row_there}
use Rattle.table_dump.proofs.Ranked.{id_placed}
use Rattle.table_dump.proofs.rows.node_row.Goals as goal

pub get-number-requires : goal.get-number-requires
get-number-requires g c = omega (arith, c.requires.within, c.requires.numbers.size)

pub id_at-requires : goal.id_at-requires
id_at-requires g c = let many = ap (λ (xs : List ℕ). length xs) c.nodes.ensures in omega (arith, many, c.requires.within)

pub enclosing_face-requires : goal.enclosing_face-requires
enclosing_face-requires g c = let within = c.requires.numbers.within c.args.place c.requires.within in omega (arith, within, c.get-number.ensures)

pub returns-clause-row : goal.returns-clause-row
returns-clause-row g c =
    let m = contents_of_view c.args.served in
    let names = (w m c.args.served.whole).node_names in
    let number = c.get-number.result in
    let within = c.requires.numbers.within c.args.place c.requires.within in
    let is = ap (slice_index m.nodes) c.get-number.ensures ∙ c.requires.numbers.id c.args.place c.requires.within in
    let id = id_placed c.nodes.result.now m.nodes c.args.place c.id_at.result c.nodes.ensures c.requires.within c.id_at.ensures.id in
    let row : Option ℕ → NodeRow = λ face. record { id = c.id_at.result; face = face } in
    ap row c.enclosing_face.ensures.face ∙ row_there _ m.nodes (node_row m) c.args.place number c.id_at.result names (omega (arith, within, c.get-number.ensures)) is (id ∙ sym is)

pub returns-clause-cost : goal.returns-clause-cost
returns-clause-cost g c =
    let d = digits_nodes (contents_of_view c.args.served) c.args.served.whole in
    let same = ap (λ (xs : List ℕ). digits (length xs + 2)) c.nodes.ensures in
    omega (arith, d, same, c.id_at.ensures.cost, c.enclosing_face.ensures.cost)
