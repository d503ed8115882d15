use Rattle.std.proofs.Common.{◌-◌, false, ap, ◌∙◌, arith}
use Rattle.code_laws.specs.Numbers.{opening_position}
use Rattle.turan_code.specs.TuranView.{code_of_view}
use Rattle.turan_code.proofs.Views.{edge_first, edge_later, edge_missing}
use Rattle.turan_code.proofs.view.TuranView.first_of_edge.Goals as goal

pub returns-then-edge-tree_edges-clause-position : goal.returns-then-edge-tree_edges-clause-position
returns-then-edge-tree_edges-clause-position g c =
    let v = c.args.self.now in
    c.opening_position.ensures.position ∙ edge_first (code_of_view v) v.sound c.args.edge (omega (arith, c.tree_edges-tree_edges.ensures))

pub returns-then-edge-tree_edges-clause-none : goal.returns-then-edge-tree_edges-clause-none
returns-then-edge-tree_edges-clause-none g c =
    let v = c.args.self.now in
    edge_missing (code_of_view v) v.sound c.args.edge c.opening_position.result
    (c.opening_position.ensures.position ∙ edge_first (code_of_view v) v.sound c.args.edge (omega (arith, c.tree_edges-tree_edges.ensures)))

pub returns-else-edge-tree_edges-clause-position : goal.returns-else-edge-tree_edges-clause-position
returns-else-edge-tree_edges-clause-position g c =
    let v = c.args.self.now in
    let code = code_of_view v in
    c.opening_position-else-edge-tree_edges.ensures.position ∙ ap (λ t. opening_position code false (c.args.edge - t)) c.tree_edges-tree_edges.ensures
    ∙ edge_later code v.sound c.args.edge (omega (arith, c.tree_edges-tree_edges.ensures))

pub returns-else-edge-tree_edges-clause-none : goal.returns-else-edge-tree_edges-clause-none
returns-else-edge-tree_edges-clause-none g c =
    let v = c.args.self.now in
    let code = code_of_view v in
    edge_missing code v.sound c.args.edge c.opening_position-else-edge-tree_edges.result
    (c.opening_position-else-edge-tree_edges.ensures.position ∙ ap (λ t. opening_position code false (c.args.edge - t)) c.tree_edges-tree_edges.ensures
    ∙ edge_later code v.sound c.args.edge (omega (arith, c.tree_edges-tree_edges.ensures)))
