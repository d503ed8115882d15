use Rattle.std.proofs.Common.{◌≤◌, ◌+◌, ◌-◌, ◌*◌, ℕ, List, length, arith, ap}
use Rattle.bit_words.specs.Digits.{digits}
use Rattle.id_names.specs.Views.{ids_of}
use Rattle.pemb_file.specs.Served.{contents_of_view}
use Rattle.navigate.specs.Bound.{line_digits}
use Rattle.navigate.proofs.Facts.{w, digits_edges, digits_faces, digits_nodes}
use Rattle.table_dump.proofs.AtRanks.{joined_is}
use Rattle.table_dump.proofs.Reading.{ids_paid, joined_few}
use Rattle.table_dump.proofs.ids.read_ids.Goals as goal

pub overflow_sub-joined : goal.overflow_sub-joined
overflow_sub-joined g c =
    let s = (w (contents_of_view c.args.served) c.args.served.whole).sizes.nodes in
    omega (arith, s, c.counts-counts.ensures.nodes, c.counts-counts.ensures.isolated)

pub returns-clause-cost : goal.returns-clause-cost
returns-clause-cost g c =
    let m = contents_of_view c.args.served in
    let whole = c.args.served.whole in
    let d = line_digits m in
    let counts = c.counts-counts in
    let joined = joined_is m _ _ counts.ensures.nodes counts.ensures.isolated in
    let all = joined_few m (w m whole) in
    let few : counts.result.nodes - counts.result.isolated + counts.result.faces ≤ 2 * counts.result.edges = omega (arith, joined, all, counts.ensures.faces, counts.ensures.edges) in
    let of_nodes = digits_nodes m whole in
    let of_edges = digits_edges m whole in
    let of_faces = digits_faces m whole in
    let nodes : digits (length (ids_of c.nodes.result.now) + 2) ≤ d = let same = ap (λ (xs : List ℕ). digits (length xs + 2)) c.nodes.ensures in omega (arith, same, of_nodes) in
    let edges : digits (length (ids_of c.edges.result.now) + 2) ≤ d = let same = ap (λ (xs : List ℕ). digits (length xs + 2)) c.edges.ensures in omega (arith, same, of_edges) in
    let faces : digits (length (ids_of c.faces.result.now) + 2) ≤ d = let same = ap (λ (xs : List ℕ). digits (length xs + 2)) c.faces.ensures in omega (arith, same, of_faces) in
    let paid = ids_paid _ _ _ _ _ _ d _ _ _ _ few nodes edges faces c.first_ids-nodes.ensures.cost c.first_ids-edges.ensures.cost c.first_ids-faces.ensures.cost in
    let price = ap (λ e. e * (9 * line_digits m + 60)) counts.ensures.edges in
    omega (arith, paid, price)
