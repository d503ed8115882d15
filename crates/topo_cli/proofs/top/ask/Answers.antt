use Rattle.std.proofs.Common.{◌≡◌, ◌∙◌, ◌+◌, ◌≤◌, ap, subst, List, ℕ, refl, arith}
use Rattle.plane_model.specs.PlaneMap.{PlaneMap, map_of}
use Rattle.file_laws.specs.Lawful.{map_of_file}
use Rattle.navigate.specs.Bound.{map_with}
use Rattle.topo_cli.specs.Words.{Form}
use Rattle.topo_cli.proofs.Built.{fits_ask}
use Rattle.topo_cli.proofs.Served.{served_as}
use Rattle.topo_cli.proofs.Statuses.{not_loaded}
use Rattle.topo_cli.proofs.top.ask.Goals as goal

pub returns-in-Err : goal.returns-in-Err
returns-in-Err g c =
    not_loaded _ (Form.Ask c.args.dir.now) c.in-Err.fault _
    (record { form = refl; unread = record { left = refl; faults = refl }; kept = c.in-Err.ensures.kept; counted = omega arith })
    c.in-Err.ensures.ends (fits_ask c.args.dir.now _ c.in-Err.ensures.named) c.in-Err.ensures.shown c.end_loading.ensures

pub returns : goal.returns
returns g c =
    let b = c.in-Ok.ensures.built in
    served_as _ (Form.Ask c.args.dir.now) b.tables _ _ _ (ap map_with c.of-served.ensures ∙ c.open_draft-opened.ensures.map ∙ b.is.stands.2)
    (record {
      form = refl;
      reads = tt;
      are = b.are;
      consistent = b.consistent;
      kept = c.in-Ok.ensures.kept;
      grows = c.open_draft-opened.ensures.grows;
      most = c.open_draft-opened.ensures.few;
    })
    c.serve_script.ensures
