use Rattle.std.proofs.Common.{◌∙◌, ◌+◌, ◌≤◌, ap, subst, refl, List, ℕ, arith}
use Rattle.plane_model.specs.PlaneMap.{PlaneMap}
use Rattle.file_laws.specs.Lawful.{map_of_file}
use Rattle.file_laws.proofs.Sizes.{lawful_consistent, lawful_size}
use Rattle.region_border.specs.Prices.{most_border_words}
use Rattle.outline_text.specs.Lines.{border_text, edges_told}
use Rattle.topo_cli.specs.declared.status.Status.TheVariants as status
use Rattle.topo_cli.specs.declared.load.LoadFault.TheVariants as fault
use Rattle.topo_cli.specs.Call.{sink_call}
use Rattle.topo_cli.specs.Ended.{IsTold}
use Rattle.topo_cli.specs.Words.{Form}
use Rattle.topo_cli.proofs.Built.{fits_file, told}
use Rattle.topo_cli.proofs.Loads.{file_lawful, file_unlawful}
use Rattle.topo_cli.proofs.Opened.{cost_is, lawful_from, map_is}
use Rattle.topo_cli.proofs.Statuses.{not_loaded, wanting}
use Rattle.topo_cli.proofs.top.border.Goals as goal

pub returns-in-Err : goal.returns-in-Err
returns-in-Err g c = λ script idle.
    let k = Form.Border c.args.file.now c.args.region.0 in
    not_loaded _ k c.in-Err.why _
    (record { form = refl; unread = idle; kept = c.in-Err.ensures.kept; counted = omega arith })
    c.in-Err.ensures.ends (fits_file k c.args.file.now _ tt tt refl c.in-Err.ensures.named) c.in-Err.ensures.shown c.end_loading.ensures

pub returns-in-Err-open : goal.returns-in-Err-open
returns-in-Err-open g c = λ script idle.
    not_loaded _ (Form.Border c.args.file.now c.args.region.0) (fault.Unlawful c.in-Err-open.why) _
    (record { form = refl; unread = idle; kept = c.in-Ok.ensures.kept; counted = c.in-Err-open.ensures.grows })
    (file_unlawful _ c.args.file.now c.in-Ok.bytes.items c.deref.result.now _ c.deref.ensures.value c.in-Ok.ensures.whole c.in-Ok.ensures.short c.in-Err-open.ensures.fault)
    tt tt c.end_loading-in-Err-open.ensures

pub returns-in-Ok-border_text : goal.returns-in-Ok-border_text
returns-in-Ok-border_text g c = λ script idle.
    let region = c.args.region.0 in
    let seen = c.deref.result.now in
    let lawful = lawful_from seen c.in-Ok-open.ensures.fault in
    let t = map_of_file seen in
    let same = map_is seen _ (c.of-served.ensures ∙ c.in-Ok-open.ensures.contents) in
    let start = c.in-Ok-open.ensures.grows in
    let more = c.border_text.ensures.grows in
    let opened = cost_is seen _ _ (lawful_size seen lawful) c.in-Ok-open.ensures.cost in
    let L : PlaneMap → Type 0 = λ m. c.open.new.steps + edges_told m region ≤ c.border_text.new.steps in
    let M : PlaneMap → Type 0 = λ m. c.border_text.new.steps ≤ c.open.new.steps + most_border_words m in
    let walked = subst L same c.in-Ok-border_text.ensures.least in
    let most = subst M same c.border_text.ensures.most in
    let Q : List ℕ → Type 0 = λ text. IsTold text status.Done c.tell.result (sink_call g.K.Sink.held g.K.Sink.faults c.args.out.now c.tell.new.out) in
    told _ (Form.Border c.args.file.now region) t _ _
    (record {
      form = refl;
      are = file_lawful _ c.args.file.now c.in-Ok.bytes.items seen c.deref.ensures.value c.in-Ok.ensures.whole c.in-Ok.ensures.short c.in-Ok-open.ensures.fault;
      consistent = lawful_consistent seen lawful;
      unread = idle;
      grows = omega (arith, start, more);
    })
    (λ wrote. record { wrote = wrote; least = omega (arith, start, walked); most = omega (arith, opened, most) })
    (λ part. part)
    c.in-Ok.ensures.kept c.in-Ok.ensures.kept
    (subst Q (c.deref-in-Ok-border_text.ensures.value ∙ c.in-Ok-border_text.ensures.text ∙ ap (λ m. border_text m region) same) c.tell.ensures)

pub returns : goal.returns
returns g c = λ script idle.
    let start = c.in-Ok-open.ensures.grows in
    let more = c.border_text.ensures.grows in
    wanting _ (Form.Border c.args.file.now c.args.region.0) (record { form = refl; unread = idle; kept = c.in-Ok.ensures.kept; counted = omega (arith, start, more) }) refl
