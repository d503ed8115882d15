use Rattle.std.proofs.Common.{arith, ap, sym, ◌∙◌, subst, ◌≡◌, ◌+◌, ◌/◌, ◌%◌, ◌==◌, ℕ, ℤ, List, length, true}
use Rattle.std.specs.Prelude.{slice_index}
use Rattle.bit_words.specs.Digits.{digits}
use Rattle.topo_base.specs.SignedEdge.{edge_of}
use Rattle.plane_model.specs.Answers.{has_signed_edge}
use Rattle.pemb_file.specs.Served.{contents_of_view}
use Rattle.navigate.specs.Bound.{map_with}
use Rattle.navigate.proofs.Facts.{digits_edges, id_ok}
use Rattle.region_border.proofs.MapFacts.{number_is}
use Rattle.region_border.proofs.ByPlace.{rank_id, directed_edge, known_number}
use Rattle.region_border.proofs.beginnings.signed_edge_at.Goals as goal

pub number_at-number-requires : goal.number_at-number-requires
number_at-number-requires g c = let many = ap (λ (xs : List ℕ). length xs) c.edges-edges.ensures in omega (arith, many, c.requires)

pub with_direction-requires : goal.with_direction-requires
with_direction-requires g c =
    let k = contents_of_view c.args.served in
    let same = c.edges-edges.ensures in
    let many = ap (λ (xs : List ℕ). length xs) same in
    id_ok k c.args.served.whole c.number_at-number.result c.id_of-id.result (omega (arith, many, c.number_at-number.ensures.within)) (c.id_of-id.ensures.id ∙ ap (λ (xs : List ℕ). slice_index xs c.number_at-number.result) same)

pub returns-clause-edge : goal.returns-clause-edge
returns-clause-edge g c =
    let k = contents_of_view c.args.served in
    let place = c.args.place in
    let number = c.number_at-number in
    let id = c.id_of-id in
    c.with_direction.ensures ∙ sym (number_is k c.args.served.whole place id.result c.requires (rank_id c.edges-edges.result.now k.edges (place / 2) number.result id.result c.edges-edges.ensures (omega (arith, c.requires)) number.ensures.id id.ensures.id))

pub returns-clause-known : goal.returns-clause-known
returns-clause-known g c =
    let k = contents_of_view c.args.served in
    let place = c.args.place in
    let number = c.number_at-number in
    let id = c.id_of-id in
    let is = c.with_direction.ensures ∙ sym (number_is k c.args.served.whole place id.result c.requires (rank_id c.edges-edges.result.now k.edges (place / 2) number.result id.result c.edges-edges.ensures (omega (arith, c.requires)) number.ensures.id id.ensures.id)) in
    subst (λ (d : ℤ). has_signed_edge (map_with k) d ≡ true) (sym is) (known_number k c.args.served.whole place c.requires)

pub returns-clause-within : goal.returns-clause-within
returns-clause-within g c = let many = ap (λ (xs : List ℕ). length xs) c.edges-edges.ensures in omega (arith, many, c.number_at-number.ensures.within)

pub returns-clause-named : goal.returns-clause-named
returns-clause-named g c =
    let id = c.id_of-id.ensures.id ∙ ap (λ (xs : List ℕ). slice_index xs c.number_at-number.result) c.edges-edges.ensures in
    sym (ap edge_of c.with_direction.ensures ∙ directed_edge (c.args.place % 2 == 0) c.id_of-id.result ∙ id)

pub returns-clause-cost : goal.returns-clause-cost
returns-clause-cost g c =
    let d = digits_edges (contents_of_view c.args.served) c.args.served.whole in
    let same = ap (λ (xs : List ℕ). digits (length xs + 2)) c.edges-edges.ensures in
    omega (arith, d, same, c.number_at-number.ensures.cost, c.id_of-id.ensures.cost)
