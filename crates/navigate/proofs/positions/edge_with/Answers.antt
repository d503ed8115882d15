use Rattle.std.proofs.Common.{arith, ap, ◌∙◌, ◌+◌, List, ℕ, length}
use Rattle.std.specs.Prelude.{slice_index}
use Rattle.bit_words.specs.Digits.{digits}
use Rattle.pemb_file.specs.Served.{contents_of_view}
use Rattle.navigate.proofs.Facts.{digits_edges, forward_many, id_ok, edge_is}
use Rattle.navigate.proofs.positions.edge_with.Goals as goal

pub forward-forward-requires : goal.forward-forward-requires
forward-forward-requires g c =
    let many = forward_many (contents_of_view c.args.served) c.args.served.whole in
    omega (arith, c.requires, many)

pub id_of-id-requires : goal.id_of-id-requires
id_of-id-requires g c =
    let many = ap (λ (xs : List ℕ). length xs) c.edges-edges.ensures in
    omega (arith, c.requires, many)

pub with_direction-requires : goal.with_direction-requires
with_direction-requires g c =
    let m = contents_of_view c.args.served in
    id_ok m c.args.served.whole c.args.number c.id_of-id.result c.requires (c.id_of-id.ensures.id ∙ ap (λ (xs : List ℕ). slice_index xs c.args.number) c.edges-edges.ensures)

pub returns-clause-edge : goal.returns-clause-edge
returns-clause-edge g c = λ p number first.
    let m = contents_of_view c.args.served in
    edge_is m p c.args.number c.id_of-id.result c.args.first c.forward-forward.result c.with_direction.result number
    (c.id_of-id.ensures.id ∙ ap (λ (xs : List ℕ). slice_index xs c.args.number) c.edges-edges.ensures)
    first c.forward-forward.ensures.forward c.with_direction.ensures

pub returns-clause-cost : goal.returns-clause-cost
returns-clause-cost g c =
    let k = digits_edges (contents_of_view c.args.served) c.args.served.whole in
    let same = ap (λ (xs : List ℕ). digits (length xs + 2)) c.edges-edges.ensures in
    omega (arith, k, same, c.forward-forward.ensures.one_step, c.id_of-id.ensures.cost)
