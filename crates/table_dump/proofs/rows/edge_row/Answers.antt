use Rattle.std.proofs.Math.Facts.{to_z-of_z}
use Rattle.std.proofs.Common.{w64, SFits, rules, ◌+◌, ℕ, List, length, arith, ap, ◌∙◌, refl}
use Rattle.bit_words.specs.Digits.{digits}
use Rattle.code_laws.specs.Code.{mate}
use Rattle.scratch_region.specs.Numbers.{numbers_of}
use Rattle.file_laws.specs.MapOfFile.{edge_row, forward_position}
use Rattle.pemb_file.specs.Served.{contents_of_view}
use Rattle.navigate.proofs.Facts.{digits_edges, few_edges}
use Rattle.table_dump.specs.AtEnds.{edge_number}
use Rattle.table_dump.specs.Ends.{face_in, next_in, node_in}
use Rattle.table_dump.proofs.AtRanks.{edge_row_is}
use Rattle.table_dump.proofs.Ranked.{id_placed}
use Rattle.table_dump.proofs.rows.edge_row.Goals as goal

pub end_at-forward-requires : goal.end_at-forward-requires
end_at-forward-requires g c = let few = few_edges (contents_of_view c.args.served) c.args.served.whole in omega (arith, few, c.requires.within)

pub end_at-backward-requires : goal.end_at-backward-requires
end_at-backward-requires g c = let few = few_edges (contents_of_view c.args.served) c.args.served.whole in omega (arith, few, c.requires.within)

pub id_at-requires : goal.id_at-requires
id_at-requires g c = let many = ap (λ (xs : List ℕ). length xs) c.edges.ensures in omega (arith, many, c.requires.within)

pub returns-clause-row : goal.returns-clause-row
returns-clause-row g c =
    let m = contents_of_view c.args.served in
    let ends = numbers_of c.args.ends.now in
    let place = c.args.place in
    let number = edge_number m place in
    let one = c.requires.ends.forward place c.requires.within in
    let two = c.requires.ends.backward place c.requires.within in
    let f : SFits w64 c.next_in.result = search rules in
    let h : SFits w64 c.next_in-2.result = search rules in
    let id = id_placed c.edges.result.now m.edges place c.id_at.result c.edges.ensures c.requires.within c.id_at.ensures.id in
    edge_row_is m c.id_at.result number (forward_position m number) (mate m.code (forward_position m number)) _ _ _ _ _ _ refl refl
    (c.node_in.ensures ∙ ap (node_in ends) c.end_at-forward.ensures.end ∙ one.node) (c.node_in-2.ensures ∙ ap (node_in ends) c.end_at-backward.ensures.end ∙ two.node)
    (to_z-of_z f ∙ c.next_in.ensures ∙ ap (next_in ends) c.end_at-forward.ensures.end ∙ one.next) (to_z-of_z h ∙ c.next_in-2.ensures ∙ ap (next_in ends) c.end_at-backward.ensures.end ∙ two.next)
    (c.face_in.ensures ∙ ap (face_in ends) c.end_at-forward.ensures.end ∙ one.face) (c.face_in-2.ensures ∙ ap (face_in ends) c.end_at-backward.ensures.end ∙ two.face)
    ∙ ap (λ x. edge_row m x number) id

pub returns-clause-cost : goal.returns-clause-cost
returns-clause-cost g c =
    let d = digits_edges (contents_of_view c.args.served) c.args.served.whole in
    let same = ap (λ (xs : List ℕ). digits (length xs + 2)) c.edges.ensures in
    omega (arith, d, same, c.id_at.ensures.cost)
