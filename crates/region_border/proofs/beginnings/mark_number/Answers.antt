use Rattle.std.proofs.Common.{arith, ap, sym, ◌∙◌, subst, ◌<◌, ◌+◌, ◌*◌, ℕ, List, length, None}
use Rattle.std.specs.Prelude.{slice_index}
use Rattle.std.proofs.lemmas.Bool.{both_ways}
use Rattle.bit_words.specs.Digits.{digits}
use Rattle.id_names.specs.Views.{ids_of}
use Rattle.pemb_file.specs.Served.{contents_of_view}
use Rattle.navigate.proofs.Facts.{digits_edges, few_edges, edge_known}
use Rattle.region_border.proofs.MapFacts.{mark_is, mark_low}
use Rattle.region_border.proofs.beginnings.mark_number.Goals as goal

pub unreachable-requires : goal.unreachable-requires
unreachable-requires g c =
    let k = contents_of_view c.args.served in
    absurd (both_ways _ (sym (edge_known k (ids_of c.edges-edges.result.now) c.edge.result.0 c.args.edge None c.edges-edges.ensures c.edge.ensures c.in_default.ensures.found)) c.requires)

pub mark_with-requires : goal.mark_with-requires
mark_with-requires g c =
    let many = ap (λ (xs : List ℕ). length xs) c.edges-edges.ensures in
    let few = few_edges (contents_of_view c.args.served) c.args.served.whole in
    omega (arith, many, few, c.in-Some.ensures.found.0)

pub returns-clause-number : goal.returns-clause-number
returns-clause-number g c =
    let k = contents_of_view c.args.served in
    let many = ap (λ (xs : List ℕ). length xs) c.edges-edges.ensures in
    let named = ap (λ (xs : List ℕ). slice_index xs c.in-Some.number) (sym c.edges-edges.ensures) ∙ c.in-Some.ensures.found.1 ∙ c.edge.ensures in
    c.mark_with.ensures ∙ sym (mark_is k c.args.served.whole c.args.edge c.in-Some.number (omega (arith, many, c.in-Some.ensures.found.0)) named)

pub returns-clause-within : goal.returns-clause-within
returns-clause-within g c =
    let k = contents_of_view c.args.served in
    let many = ap (λ (xs : List ℕ). length xs) c.edges-edges.ensures in
    let named = ap (λ (xs : List ℕ). slice_index xs c.in-Some.number) (sym c.edges-edges.ensures) ∙ c.in-Some.ensures.found.1 ∙ c.edge.ensures in
    let is = c.mark_with.ensures ∙ sym (mark_is k c.args.served.whole c.args.edge c.in-Some.number (omega (arith, many, c.in-Some.ensures.found.0)) named) in
    subst (λ (x : ℕ). x < 2 * length k.edges) (sym is) (mark_low k c.args.served.whole c.args.edge c.requires)

pub returns-clause-cost : goal.returns-clause-cost
returns-clause-cost g c =
    let d = digits_edges (contents_of_view c.args.served) c.args.served.whole in
    let same = ap (λ (xs : List ℕ). digits (length xs + 2)) c.edges-edges.ensures in
    omega (arith, d, same, c.in-Some.ensures.cost)
