use Rattle.std.proofs.Common.{arith, ap, ◌+◌, ℕ, List, length}
use Rattle.bit_words.specs.Digits.{digits}
use Rattle.id_names.specs.Views.{ids_of}
use Rattle.pemb_file.specs.Served.{contents_of_view}
use Rattle.navigate.proofs.Facts.{digits_nodes, node_known}
use Rattle.navigate.proofs.names.node_number.Goals as goal

pub returns-clause-known : goal.returns-clause-known
returns-clause-known g c = node_known (contents_of_view c.args.served) (ids_of c.nodes.result.now) c.args.node.0 c.number_of.result c.nodes.ensures c.number_of.ensures.found

pub returns-clause-cost : goal.returns-clause-cost
returns-clause-cost g c =
    let d = digits_nodes (contents_of_view c.args.served) c.args.served.whole in
    let same = ap (λ (xs : List ℕ). digits (length xs + 2)) c.nodes.ensures in
    omega (arith, d, same, c.number_of.ensures.cost)
