use Rattle.std.proofs.Common.{◌∙◌, ap, sym, subst, Some}
use Rattle.topo_base.specs.SignedEdge.{edge_of}
use Rattle.topo_base.specs.declared.refusal.Refusal.TheVariants.{NoEdge}
use Rattle.plane_model.specs.Rows.{rows_of}
use Rattle.rotation_check.specs.Darts.{IsDartOf}
use Rattle.rotation_check.proofs.RowLemmas.{edge_at-has}
use Rattle.rotation_check.proofs.Ranges.{kept}
use Rattle.rotation_check.proofs.Numbering.{first_fails, second_fails, none_fails, dart_has, next_missing}
use Rattle.rotation_check.proofs.missing_edges.EdgeIndex.darts_of_nexts.Goals as goal

pub returns-clause-left : goal.returns-clause-left
returns-clause-left c = subst (λ d. IsDartOf c.args.self.now.tables.now.edges d c.in-Some.left) (kept c.args.edge.now.next_left c.requires.left) c.in-Some.ensures

pub returns-clause-right : goal.returns-clause-right
returns-clause-right c = subst (λ d. IsDartOf c.args.self.now.tables.now.edges d c.in-Some-dart_of.right) (kept c.args.edge.now.next_right c.requires.right) c.in-Some-dart_of.ensures

pub returns-in_default-clause-fault : goal.returns-in_default-clause-fault
returns-in_default-clause-fault c =
    first_fails _ _ _ _ (edge_at-has (rows_of c.args.self.now.tables.now) (edge_of c.args.edge.now.next_left) ∙ next_missing c.args.self.now.tables.now.edges _ c.args.edge.now.next_left (kept c.args.edge.now.next_left c.requires.left) c.in_default.ensures)
    ∙ ap (λ n. Some (NoEdge c.args.edge.now.id n)) (sym (kept c.args.edge.now.next_left c.requires.left))

pub returns-in_default-dart_of-clause-fault : goal.returns-in_default-dart_of-clause-fault
returns-in_default-dart_of-clause-fault c =
    second_fails _ _ _ _
    (edge_at-has (rows_of c.args.self.now.tables.now) (edge_of c.args.edge.now.next_left) ∙ dart_has c.args.self.now.tables.now.edges _ c.args.edge.now.next_left c.in-Some.left (kept c.args.edge.now.next_left c.requires.left) c.in-Some.ensures)
    (edge_at-has (rows_of c.args.self.now.tables.now) (edge_of c.args.edge.now.next_right) ∙ next_missing c.args.self.now.tables.now.edges _ c.args.edge.now.next_right (kept c.args.edge.now.next_right c.requires.right) c.in_default-dart_of.ensures)
    ∙ ap (λ n. Some (NoEdge c.args.edge.now.id n)) (sym (kept c.args.edge.now.next_right c.requires.right))

pub returns-clause-fault : goal.returns-clause-fault
returns-clause-fault c =
    none_fails _ _ _ _
    (edge_at-has (rows_of c.args.self.now.tables.now) (edge_of c.args.edge.now.next_left) ∙ dart_has c.args.self.now.tables.now.edges _ c.args.edge.now.next_left c.in-Some.left (kept c.args.edge.now.next_left c.requires.left) c.in-Some.ensures)
    (edge_at-has (rows_of c.args.self.now.tables.now) (edge_of c.args.edge.now.next_right) ∙ dart_has c.args.self.now.tables.now.edges _ c.args.edge.now.next_right c.in-Some-dart_of.right (kept c.args.edge.now.next_right c.requires.right) c.in-Some-dart_of.ensures)
