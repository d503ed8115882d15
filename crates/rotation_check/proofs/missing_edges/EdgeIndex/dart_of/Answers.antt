use Rattle.std.proofs.Common.{◌∙◌, sym, ap, arith}
use Rattle.topo_base.specs.SignedEdge.{edge_of, is_forward}
use Rattle.id_index.specs.Index.{row_in}
use Rattle.id_index.proofs.Indexes.{index_missing}
use Rattle.rotation_check.proofs.Ranges.{kept}
use Rattle.rotation_check.proofs.Indexes.{row_at}
use Rattle.rotation_check.proofs.Numbering.{dart_forward, dart_backward, row_within}
use Rattle.rotation_check.proofs.missing_edges.EdgeIndex.dart_of.Goals as goal

pub returns-in_err-row : goal.returns-in_err-row
returns-in_err-row c =
    let is = c.edge_id.ensures ∙ ap edge_of (kept c.args.number c.requires.signed) in
    rw c.from_residual.ensures (index_missing _ c.args.self.now.rows (edge_of c.args.number) c.requires.index (ap (row_in c.args.self.now.rows) (sym is) ∙ sym c.row_of.ensures ∙ c.in_err-row.was))

pub overflow_mul-result : goal.overflow_mul-result
overflow_mul-result c =
    let row = row_at c.args.self.now.tables.now.edges c.args.self.now.rows c.args.number c.edge_id.result c.in_ok-row.row c.requires.index (c.edge_id.ensures ∙ ap edge_of (kept c.args.number c.requires.signed)) (sym c.row_of.ensures ∙ c.in_ok-row.was) in
    let few = c.requires.few in
    let within = row_within c.args.self.now.tables.now.edges c.in_ok-row.row _ row in
    omega arith

pub overflow_mul-result-else-is_forward : goal.overflow_mul-result-else-is_forward
overflow_mul-result-else-is_forward c =
    let row = row_at c.args.self.now.tables.now.edges c.args.self.now.rows c.args.number c.edge_id.result c.in_ok-row.row c.requires.index (c.edge_id.ensures ∙ ap edge_of (kept c.args.number c.requires.signed)) (sym c.row_of.ensures ∙ c.in_ok-row.was) in
    let few = c.requires.few in
    let within = row_within c.args.self.now.tables.now.edges c.in_ok-row.row _ row in
    omega arith

pub overflow_add-result : goal.overflow_add-result
overflow_add-result c =
    let row = row_at c.args.self.now.tables.now.edges c.args.self.now.rows c.args.number c.edge_id.result c.in_ok-row.row c.requires.index (c.edge_id.ensures ∙ ap edge_of (kept c.args.number c.requires.signed)) (sym c.row_of.ensures ∙ c.in_ok-row.was) in
    let few = c.requires.few in
    let within = row_within c.args.self.now.tables.now.edges c.in_ok-row.row _ row in
    omega arith

pub returns-then-is_forward : goal.returns-then-is_forward
returns-then-is_forward c =
    let row = row_at c.args.self.now.tables.now.edges c.args.self.now.rows c.args.number c.edge_id.result c.in_ok-row.row c.requires.index (c.edge_id.ensures ∙ ap edge_of (kept c.args.number c.requires.signed)) (sym c.row_of.ensures ∙ c.in_ok-row.was) in
    dart_forward c.args.self.now.tables.now.edges c.in_ok-row.row c.args.number row (ap is_forward (sym (kept c.args.number c.requires.signed)) ∙ sym c.is_forward.ensures ∙ c.if-is_forward.true)

pub returns-else-is_forward : goal.returns-else-is_forward
returns-else-is_forward c =
    let row = row_at c.args.self.now.tables.now.edges c.args.self.now.rows c.args.number c.edge_id.result c.in_ok-row.row c.requires.index (c.edge_id.ensures ∙ ap edge_of (kept c.args.number c.requires.signed)) (sym c.row_of.ensures ∙ c.in_ok-row.was) in
    dart_backward c.args.self.now.tables.now.edges c.in_ok-row.row c.args.number row (ap is_forward (sym (kept c.args.number c.requires.signed)) ∙ sym c.is_forward.ensures ∙ c.if-is_forward.false)
