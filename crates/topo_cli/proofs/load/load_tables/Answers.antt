use Rattle.std.proofs.Common.{◌≡◌, ◌∙◌, sym, subst, Option, IfSome, Ok}
use Rattle.ports.specs.Outside.{Files}
use Rattle.plane_model.specs.Reading.{edge_rows, face_rows, member_rows, region_rows}
use Rattle.topo_cli.specs.Loading.{IsMetWhereTold}
use Rattle.topo_cli.specs.Tables.{loaded, optional_table, table}
use Rattle.topo_cli.specs.Words.{edge_table, face_table, member_table, region_table}
use Rattle.topo_cli.specs.declared.load.LoadFault.{LoadFault}
use Rattle.topo_cli.proofs.Loads.{err_and, ends_at_nodes, ends_at_edges, ends_at_faces, ends_at_regions, ends_at_members, loaded_rows}
use Rattle.topo_cli.proofs.load.load_tables.Goals as goal

pub returns-in_err-nodes-clause-ends : goal.returns-in_err-nodes-clause-ends
returns-in_err-nodes-clause-ends g c =
    let P : LoadFault → Type 0 = IsMetWhereTold (g.H.Shelf.files c.args.shelf.now) (λ files. loaded files c.args.dir.now) in
    err_and _ _ P c.from_residual.ensures.1 (λ e same. subst P (sym same) (ends_at_nodes _ _ _ c.in_err-nodes.ensures.ends))

pub returns-in_err-edges-clause-ends : goal.returns-in_err-edges-clause-ends
returns-in_err-edges-clause-ends g c =
    let P : LoadFault → Type 0 = IsMetWhereTold (g.H.Shelf.files c.args.shelf.now) (λ files. loaded files c.args.dir.now) in
    let Q : Option Files → Type 0 = λ o. IsMetWhereTold o (λ files. table edge_rows files (edge_table c.args.dir.now)) c.in_err-edges.field-0.0 in
    err_and _ _ P c.from_residual-in_err-edges.ensures.1
    (λ e same. subst P (sym same) (ends_at_edges _ _ _ _ c.in_ok-nodes.ensures.rows (subst Q c.in_ok-nodes.ensures.kept c.in_err-edges.ensures.ends)))

pub returns-in_err-faces-clause-ends : goal.returns-in_err-faces-clause-ends
returns-in_err-faces-clause-ends g c =
    let P : LoadFault → Type 0 = IsMetWhereTold (g.H.Shelf.files c.args.shelf.now) (λ files. loaded files c.args.dir.now) in
    let Q : Option Files → Type 0 = λ o. IsMetWhereTold o (λ files. table face_rows files (face_table c.args.dir.now)) c.in_err-faces.field-0.0 in
    let R : Option Files → Type 0 = λ o. IfSome o (λ files. table edge_rows files (edge_table c.args.dir.now) ≡ Ok c.in_ok-edges.edges) in
    let kept = c.in_ok-edges.ensures.kept ∙ c.in_ok-nodes.ensures.kept in
    err_and _ _ P c.from_residual-in_err-faces.ensures.1
    (λ e same. subst P (sym same)
    (ends_at_faces _ _ _ _ _ c.in_ok-nodes.ensures.rows (subst R c.in_ok-nodes.ensures.kept c.in_ok-edges.ensures.rows) (subst Q kept c.in_err-faces.ensures.ends)))

pub returns-in_err-regions-clause-ends : goal.returns-in_err-regions-clause-ends
returns-in_err-regions-clause-ends g c =
    let P : LoadFault → Type 0 = IsMetWhereTold (g.H.Shelf.files c.args.shelf.now) (λ files. loaded files c.args.dir.now) in
    let Q : Option Files → Type 0 = λ o. IsMetWhereTold o (λ files. optional_table region_rows files (region_table c.args.dir.now)) c.in_err-regions.field-0.0 in
    let R : Option Files → Type 0 = λ o. IfSome o (λ files. table edge_rows files (edge_table c.args.dir.now) ≡ Ok c.in_ok-edges.edges) in
    let S : Option Files → Type 0 = λ o. IfSome o (λ files. table face_rows files (face_table c.args.dir.now) ≡ Ok c.in_ok-faces.faces.items) in
    let nodes = c.in_ok-nodes.ensures.kept in
    let edges = c.in_ok-edges.ensures.kept ∙ nodes in
    let faces = c.in_ok-faces.ensures.kept ∙ edges in
    err_and _ _ P c.from_residual-in_err-regions.ensures.1
    (λ e same. subst P (sym same)
    (ends_at_regions _ _ _ _ _ _ c.in_ok-nodes.ensures.rows (subst R nodes c.in_ok-edges.ensures.rows) (subst S edges c.in_ok-faces.ensures.rows) (subst Q faces c.in_err-regions.ensures.ends)))

pub returns-in_err-members-clause-ends : goal.returns-in_err-members-clause-ends
returns-in_err-members-clause-ends g c =
    let P : LoadFault → Type 0 = IsMetWhereTold (g.H.Shelf.files c.args.shelf.now) (λ files. loaded files c.args.dir.now) in
    let Q : Option Files → Type 0 = λ o. IsMetWhereTold o (λ files. optional_table member_rows files (member_table c.args.dir.now)) c.in_err-members.field-0.0 in
    let R : Option Files → Type 0 = λ o. IfSome o (λ files. table edge_rows files (edge_table c.args.dir.now) ≡ Ok c.in_ok-edges.edges) in
    let S : Option Files → Type 0 = λ o. IfSome o (λ files. table face_rows files (face_table c.args.dir.now) ≡ Ok c.in_ok-faces.faces.items) in
    let T : Option Files → Type 0 = λ o. IfSome o (λ files. optional_table region_rows files (region_table c.args.dir.now) ≡ Ok c.in_ok-regions.regions.items) in
    let nodes = c.in_ok-nodes.ensures.kept in
    let edges = c.in_ok-edges.ensures.kept ∙ nodes in
    let faces = c.in_ok-faces.ensures.kept ∙ edges in
    let regions = c.in_ok-regions.ensures.kept ∙ faces in
    err_and _ _ P c.from_residual-in_err-members.ensures.1
    (λ e same. subst P (sym same)
    (ends_at_members _ _ _ _ _ _ _ c.in_ok-nodes.ensures.rows (subst R nodes c.in_ok-edges.ensures.rows) (subst S edges c.in_ok-faces.ensures.rows)
    (subst T faces c.in_ok-regions.ensures.rows) (subst Q regions c.in_err-members.ensures.ends)))

pub returns-clause-loaded : goal.returns-clause-loaded
returns-clause-loaded g c =
    let R : Option Files → Type 0 = λ o. IfSome o (λ files. table edge_rows files (edge_table c.args.dir.now) ≡ Ok c.in_ok-edges.edges) in
    let S : Option Files → Type 0 = λ o. IfSome o (λ files. table face_rows files (face_table c.args.dir.now) ≡ Ok c.in_ok-faces.faces.items) in
    let T : Option Files → Type 0 = λ o. IfSome o (λ files. optional_table region_rows files (region_table c.args.dir.now) ≡ Ok c.in_ok-regions.regions.items) in
    let U : Option Files → Type 0 = λ o. IfSome o (λ files. optional_table member_rows files (member_table c.args.dir.now) ≡ Ok c.in_ok-members.members.items) in
    let nodes = c.in_ok-nodes.ensures.kept in
    let edges = c.in_ok-edges.ensures.kept ∙ nodes in
    let faces = c.in_ok-faces.ensures.kept ∙ edges in
    let regions = c.in_ok-regions.ensures.kept ∙ faces in
    loaded_rows _ _ _ _ _ _ _ c.in_ok-nodes.ensures.rows (subst R nodes c.in_ok-edges.ensures.rows) (subst S edges c.in_ok-faces.ensures.rows)
    (subst T faces c.in_ok-regions.ensures.rows) (subst U regions c.in_ok-members.ensures.rows)
