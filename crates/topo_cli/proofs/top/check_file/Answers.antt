use Rattle.std.proofs.Common.{◌∙◌, ap, subst, refl, List, ℕ, codes}
use Rattle.file_laws.specs.Lawful.{map_of_file}
use Rattle.file_laws.proofs.Sizes.{lawful_consistent, lawful_size}
use Rattle.topo_cli.specs.declared.status.Status.TheVariants as status
use Rattle.topo_cli.specs.declared.load.LoadFault.TheVariants as fault
use Rattle.topo_cli.specs.Call.{sink_call}
use Rattle.topo_cli.specs.Ended.{IsTold}
use Rattle.topo_cli.specs.Text.{counts_line}
use Rattle.topo_cli.specs.Words.{Form}
use Rattle.topo_cli.proofs.Built.{told}
use Rattle.topo_cli.proofs.Loads.{file_lawful, file_unlawful}
use Rattle.topo_cli.proofs.Opened.{cost_is, lawful_from, map_is}
use Rattle.topo_cli.proofs.Statuses.{not_loaded}
use Rattle.topo_cli.proofs.top.check_file.Goals as goal

pub returns-in-Err-open : goal.returns-in-Err-open
returns-in-Err-open g c = λ script idle.
    not_loaded _ (Form.Check c.args.file.now) (fault.Unlawful c.in-Err-open.why) _
    (record { form = refl; unread = idle; kept = c.in-Ok.ensures.kept; counted = c.in-Err-open.ensures.grows })
    (file_unlawful _ c.args.file.now c.in-Ok.bytes.items c.deref.result.now _ c.deref.ensures.value c.in-Ok.ensures.whole c.in-Ok.ensures.short c.in-Err-open.ensures.fault)
    tt tt c.end_loading-in-Err-open.ensures

pub returns-in-Ok-line_of_counts : goal.returns-in-Ok-line_of_counts
returns-in-Ok-line_of_counts g c = λ script idle.
    let seen = c.deref.result.now in
    let lawful = lawful_from seen c.in-Ok-open.ensures.fault in
    let line = c.in-Ok-line_of_counts.ensures ∙ ap (counts_line (codes "lawful")) (map_is seen _ (c.of-served.ensures ∙ c.in-Ok-open.ensures.contents)) in
    let Q : List ℕ → Type 0 = λ text. IsTold text status.Done c.tell.result (sink_call g.K.Sink.held g.K.Sink.faults c.args.out.now c.tell.new.out) in
    told _ (Form.Check c.args.file.now) (map_of_file seen) _ _
    (record {
      form = refl;
      are = file_lawful _ c.args.file.now c.in-Ok.bytes.items seen c.deref.ensures.value c.in-Ok.ensures.whole c.in-Ok.ensures.short c.in-Ok-open.ensures.fault;
      consistent = lawful_consistent seen lawful;
      unread = idle;
      grows = c.in-Ok-open.ensures.grows;
    })
    (λ wrote. record { wrote = wrote; most = cost_is seen _ _ (lawful_size seen lawful) c.in-Ok-open.ensures.cost })
    (λ part. part)
    c.in-Ok.ensures.kept c.in-Ok.ensures.kept
    (subst Q (c.deref-in-Ok-line_of_counts.ensures.value ∙ line) c.tell.ensures)
