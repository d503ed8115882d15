use Rattle.std.proofs.Common.{◌∙◌, sym}
use Rattle.plane_model.specs.Rows.{rows_of}
use Rattle.id_index.proofs.Indexes.{index_missing, index_some, index_there}
use Rattle.rotation_check.proofs.RowLemmas.{node_at-has}
use Rattle.rotation_check.proofs.Numbering.{first_fails, second_fails, none_fails}
use Rattle.rotation_check.proofs.missing_nodes.NodeIndex.rows_of_ends.Goals as goal

pub returns-in_default-clause-fault : goal.returns-in_default-clause-fault
returns-in_default-clause-fault c =
    first_fails _ _ _ _ (node_at-has (rows_of c.args.self.now.tables.now) c.args.edge.now.start ∙ index_missing _ c.args.self.now.rows c.args.edge.now.start c.requires (sym c.row_of.ensures ∙ c.in_default.is))

pub returns-in_default-row_of-clause-fault : goal.returns-in_default-row_of-clause-fault
returns-in_default-row_of-clause-fault c =
    second_fails _ _ _ _ (node_at-has (rows_of c.args.self.now.tables.now) c.args.edge.now.start ∙ index_some _ c.args.self.now.rows c.args.edge.now.start c.in-Some.start c.requires (sym c.row_of.ensures ∙ c.in-Some.is))
    (node_at-has (rows_of c.args.self.now.tables.now) c.args.edge.now.end ∙ index_missing _ c.args.self.now.rows c.args.edge.now.end c.requires (sym c.row_of-2.ensures ∙ c.in_default-row_of.is))

pub returns-clause-start : goal.returns-clause-start
returns-clause-start c = index_there _ c.args.self.now.rows c.args.edge.now.start c.in-Some.start c.requires (sym c.row_of.ensures ∙ c.in-Some.is)

pub returns-clause-end : goal.returns-clause-end
returns-clause-end c = index_there _ c.args.self.now.rows c.args.edge.now.end c.in-Some-row_of.end c.requires (sym c.row_of-2.ensures ∙ c.in-Some-row_of.is)

pub returns-clause-fault : goal.returns-clause-fault
returns-clause-fault c =
    none_fails _ _ _ _ (node_at-has (rows_of c.args.self.now.tables.now) c.args.edge.now.start ∙ index_some _ c.args.self.now.rows c.args.edge.now.start c.in-Some.start c.requires (sym c.row_of.ensures ∙ c.in-Some.is))
    (node_at-has (rows_of c.args.self.now.tables.now) c.args.edge.now.end ∙ index_some _ c.args.self.now.rows c.args.edge.now.end c.in-Some-row_of.end c.requires (sym c.row_of-2.ensures ∙ c.in-Some-row_of.is))
