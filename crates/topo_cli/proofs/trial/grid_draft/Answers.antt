use Rattle.std.proofs.Common.{subst, IsTrue}
use Rattle.plane_model.specs.Rows.{Rows}
use Rattle.plane_model.specs.Faults.{first_fault}
use Rattle.plane_model.specs.InRange.{is_in_range}
use Rattle.plane_model.specs.Consistent.{is_consistent}
use Rattle.map_build.specs.BuildFaults.{Names as NamesFault}
use Rattle.pemb_file.specs.Draft.{file_of_draft}
use Rattle.map_maker.specs.Grid.{grid_of}
use Rattle.topo_cli.specs.Loading.{IsMet}
use Rattle.topo_cli.specs.Outcome.{IsImageOf}
use Rattle.topo_cli.specs.Tables.{checked}
use Rattle.topo_cli.specs.declared.load.LoadFault.{LoadFault}
use Rattle.topo_cli.proofs.Loads.{checked_is, ends_at_grid, err_and}
use Rattle.topo_cli.proofs.trial.grid_draft.Goals as goal

pub returns-in_err-draft-clause-ends : goal.returns-in_err-draft-clause-ends
returns-in_err-draft-clause-ends c =
    let P : Rows → Type 0 = λ t. NamesFault c.in_err-draft.field-0.0 (first_fault t) in
    let E : LoadFault → Type 0 = λ e. IsMet e (checked (grid_of c.args.size)) in
    err_and _ _ E c.from_residual.ensures.1 (λ e same. ends_at_grid _ _ e (subst P c.in-Ok.ensures.tables c.in_err-draft.ensures.refused) same)

pub returns-clause-built : goal.returns-clause-built
returns-clause-built c =
    let P : Rows → Type 0 = λ t. IsTrue (is_consistent t) in
    let Q : Rows → Type 0 = λ t. IsTrue (is_in_range t) in
    let R : Rows → Type 0 = λ t. IsImageOf t (file_of_draft c.in_ok-draft.field-0) in
    let same = c.in-Ok.ensures.tables in
    let consistent = subst P same c.in_ok-draft.ensures.consistent in
    record {
      are = checked_is _ (subst Q same c.in-Ok.ensures.in_range) consistent;
      consistent = consistent;
      is = subst R same (record { is = c.in_ok-draft.ensures.image; lawful = c.in_ok-draft.ensures.lawful; stands = c.in_ok-draft.ensures.stands });
    }
