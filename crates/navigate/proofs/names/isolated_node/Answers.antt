use Rattle.std.proofs.Common.{arith, ap, ◌+◌, length, ℕ, List}
use Rattle.bit_words.specs.Digits.{digits}
use Rattle.pemb_file.specs.Served.{contents_of_view}
use Rattle.navigate.proofs.Facts.{w, digits_nodes}
use Rattle.navigate.proofs.names.isolated_node.Goals as goal

pub overflow_sub-counts : goal.overflow_sub-counts
overflow_sub-counts g c =
    let m = contents_of_view c.args.served in
    let s = (w m c.args.served.whole).sizes.nodes in
    omega (arith, s, c.counts-counts.ensures.nodes, c.counts-counts.ensures.isolated)

pub id_of-requires : goal.id_of-requires
id_of-requires g c =
    let m = contents_of_view c.args.served in
    let s = (w m c.args.served.whole).sizes.nodes in
    let many = ap (λ (xs : List ℕ). length xs) c.nodes-nodes.ensures in
    omega (arith, s, many, c.requires, c.counts-counts.ensures.nodes, c.counts-counts.ensures.isolated)

pub returns-clause-cost : goal.returns-clause-cost
returns-clause-cost g c =
    let d = digits_nodes (contents_of_view c.args.served) c.args.served.whole in
    let same = ap (λ (xs : List ℕ). digits (length xs + 2)) c.nodes-nodes.ensures in
    omega (arith, d, same, c.id_of.ensures.cost)
