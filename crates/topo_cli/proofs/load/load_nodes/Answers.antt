use Rattle.std.proofs.Common.{◌≡◌, ◌&&◌, sym, subst}
use Rattle.std.specs.Prelude.{string_bytes}
use Rattle.topo_base.specs.declared.refusal.Table.TheVariants as kind
use Rattle.plane_model.specs.Reading.{node_row, node_rows}
use Rattle.plane_model.specs.InRange.{is_id, is_none_or, is_face_id}
use Rattle.plane_model.proofs.ReadInRange.{rows-read, node_row-in_range}
use Rattle.topo_cli.specs.Words.{node_table}
use Rattle.topo_cli.specs.Loading.{IsMetWhereTold}
use Rattle.topo_cli.specs.Tables.{table}
use Rattle.topo_cli.specs.declared.load.LoadFault.{LoadFault}
use Rattle.topo_cli.proofs.Loads.{err_and, rows_at, refused_at, stopped_at}
use Rattle.topo_cli.proofs.load.load_nodes.Goals as goal

pub returns-in_err-bytes-clause-ends : goal.returns-in_err-bytes-clause-ends
returns-in_err-bytes-clause-ends g c =
    let name : string_bytes c.in_ok-name.name ≡ node_table c.args.dir.now = c.in_ok-name.ensures.ok in
    let P : LoadFault → Type 0 = IsMetWhereTold (g.H.Shelf.files c.args.shelf.now) (λ files. table node_rows files (node_table c.args.dir.now)) in
    err_and _ _ P c.from_residual-in_err-bytes.ensures.1
    (λ e same. subst P (sym same) (stopped_at node_rows _ _ _ _ name c.in_err-bytes.ensures.stopped c.in_err-bytes.ensures.named))

pub returns-in_err-read_nodes-clause-ends : goal.returns-in_err-read_nodes-clause-ends
returns-in_err-read_nodes-clause-ends g c =
    let name : string_bytes c.in_ok-name.name ≡ node_table c.args.dir.now = c.in_ok-name.ensures.ok in
    let P : LoadFault → Type 0 = IsMetWhereTold (g.H.Shelf.files c.args.shelf.now) (λ files. table node_rows files (node_table c.args.dir.now)) in
    err_and _ _ P c.from_residual-in_err-read_nodes.ensures.1
    (λ e same. refused_at node_rows _ _ _ _ _ _ e name c.deref.ensures.value c.in_ok-bytes.ensures.whole c.in_ok-bytes.ensures.short c.in_err-read_nodes.ensures.refused same)

pub returns-clause-rows : goal.returns-clause-rows
returns-clause-rows g c =
    rows_at node_rows _ _ _ _ _ _ c.in_ok-name.ensures.ok c.deref.ensures.value c.in_ok-bytes.ensures.whole c.in_ok-bytes.ensures.short c.in_ok-read_nodes.ensures.rows

pub returns-clause-in_range : goal.returns-clause-in_range
returns-clause-in_range g c = (rows-read kind.Node node_row (λ r. is_id r.id && is_none_or is_face_id r.face) node_row-in_range c.deref.result.now c.in_ok-read_nodes.field-0 c.in_ok-read_nodes.ensures.rows).0

pub returns-clause-few : goal.returns-clause-few
returns-clause-few g c = (rows-read kind.Node node_row (λ r. is_id r.id && is_none_or is_face_id r.face) node_row-in_range c.deref.result.now c.in_ok-read_nodes.field-0 c.in_ok-read_nodes.ensures.rows).1
