use Rattle.std.proofs.Common.{sym, subst}
use Rattle.topo_cli.specs.Loading.{IsMetWhereTold}
use Rattle.topo_cli.specs.Tables.{served}
use Rattle.topo_cli.specs.declared.load.LoadFault.{LoadFault}
use Rattle.topo_cli.proofs.Loads.{builds, err_and, ends_at_load, ends_at_build}
use Rattle.topo_cli.proofs.load.load_draft.Goals as goal

pub returns-in_err-tables-clause-ends : goal.returns-in_err-tables-clause-ends
returns-in_err-tables-clause-ends g c =
    let P : LoadFault → Type 0 = IsMetWhereTold (g.H.Shelf.files c.args.shelf.now) (λ files. served files c.args.dir.now) in
    err_and _ _ P c.from_residual.ensures.1 (λ e same. subst P (sym same) (ends_at_load _ _ _ c.in_err-tables.ensures.ends))

pub returns-in_err-draft-clause-ends : goal.returns-in_err-draft-clause-ends
returns-in_err-draft-clause-ends g c =
    let P : LoadFault → Type 0 = IsMetWhereTold (g.H.Shelf.files c.args.shelf.now) (λ files. served files c.args.dir.now) in
    err_and _ _ P c.from_residual-in_err-draft.ensures.1 (λ e same. ends_at_build _ _ _ _ _ c.in_ok-tables.ensures.loaded c.in_err-draft.ensures.refused same)

pub returns-clause-built : goal.returns-clause-built
returns-clause-built g c = builds _ _ _ _ c.in_ok-tables.ensures.loaded c.in_ok-tables.ensures.in_range c.in_ok-draft.ensures.consistent (record { is = c.in_ok-draft.ensures.image; lawful = c.in_ok-draft.ensures.lawful; stands = c.in_ok-draft.ensures.stands })
