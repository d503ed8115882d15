use Rattle.std.proofs.Common.{◌∙◌, refl, arith}
use Rattle.file_laws.specs.Lawful.{map_of_file}
use Rattle.file_laws.proofs.Sizes.{lawful_consistent, lawful_size}
use Rattle.topo_cli.specs.Words.{Form}
use Rattle.topo_cli.specs.declared.load.LoadFault.TheVariants as fault
use Rattle.topo_cli.proofs.Built.{fits_file}
use Rattle.topo_cli.proofs.Loads.{file_lawful, file_unlawful}
use Rattle.topo_cli.proofs.Opened.{cost_is, lawful_from, map_is}
use Rattle.topo_cli.proofs.Served.{served_as}
use Rattle.topo_cli.proofs.Statuses.{not_loaded}
use Rattle.topo_cli.proofs.top.query_file.Goals as goal

pub returns-in-Err : goal.returns-in-Err
returns-in-Err g c =
    not_loaded _ (Form.Query c.args.file.now) c.in-Err.why _
    (record { form = refl; unread = record { left = refl; faults = refl }; kept = c.in-Err.ensures.kept; counted = omega arith })
    c.in-Err.ensures.ends (fits_file (Form.Query c.args.file.now) c.args.file.now _ tt tt refl c.in-Err.ensures.named) c.in-Err.ensures.shown c.end_loading.ensures

pub returns-in-Ok-open : goal.returns-in-Ok-open
returns-in-Ok-open g c =
    let seen = c.deref.result.now in
    let lawful = lawful_from seen c.in-Ok-open.ensures.fault in
    served_as _ (Form.Query c.args.file.now) (map_of_file seen) _ _ _ (map_is seen _ (c.of.ensures ∙ c.in-Ok-open.ensures.contents))
    (record {
      form = refl;
      reads = tt;
      are = file_lawful _ c.args.file.now c.in-Ok.bytes.items seen c.deref.ensures.value c.in-Ok.ensures.whole c.in-Ok.ensures.short c.in-Ok-open.ensures.fault;
      consistent = lawful_consistent seen lawful;
      kept = c.in-Ok.ensures.kept;
      grows = c.in-Ok-open.ensures.grows;
      most = cost_is seen _ _ (lawful_size seen lawful) c.in-Ok-open.ensures.cost;
    })
    c.serve_script.ensures

pub returns : goal.returns
returns g c =
    not_loaded _ (Form.Query c.args.file.now) (fault.Unlawful c.in-Err-open.why) _
    (record { form = refl; unread = record { left = refl; faults = refl }; kept = c.in-Ok.ensures.kept; counted = c.in-Err-open.ensures.grows })
    (file_unlawful _ c.args.file.now c.in-Ok.bytes.items c.deref.result.now _ c.deref.ensures.value c.in-Ok.ensures.whole c.in-Ok.ensures.short c.in-Err-open.ensures.fault)
    tt tt c.end_loading-in-Err-open.ensures
