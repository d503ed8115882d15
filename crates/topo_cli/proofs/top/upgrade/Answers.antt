use Rattle.std.proofs.Common.{◌∙◌, ap, sym, subst, refl, List, ℕ, arith, codes}
use Rattle.ports.specs.Outside.{Holds, HoldsFront}
use Rattle.file_laws.specs.Lawful.{map_of_file}
use Rattle.file_laws.proofs.Sizes.{lawful_consistent}
use Rattle.topo_cli.specs.declared.status.Status.TheVariants as status
use Rattle.topo_cli.specs.declared.load.LoadFault.TheVariants as fault
use Rattle.topo_cli.specs.Call.{sink_call}
use Rattle.topo_cli.specs.Ended.{IsTold}
use Rattle.topo_cli.specs.Files.{IsWhole}
use Rattle.topo_cli.specs.Text.{counts_line}
use Rattle.topo_cli.specs.Words.{Form}
use Rattle.topo_cli.proofs.Built.{fits_file, rose_since, upgrade_unwritten, upgraded, written_since}
use Rattle.topo_cli.proofs.Loads.{file_lawful, file_unlawful}
use Rattle.topo_cli.proofs.Opened.{lawful_from, map_is}
use Rattle.topo_cli.proofs.Statuses.{not_loaded, wanting}
use Rattle.topo_cli.proofs.top.upgrade.Goals as goal

pub returns-in-Err : goal.returns-in-Err
returns-in-Err g c = λ script idle.
    let k = Form.Upgrade c.args.old_file.now c.args.new_file.now in
    not_loaded _ k c.in-Err.why _
    (record { form = refl; unread = idle; kept = c.in-Err.ensures.kept; counted = omega arith })
    c.in-Err.ensures.ends (fits_file k c.args.old_file.now _ tt tt refl c.in-Err.ensures.named) c.in-Err.ensures.shown c.end_loading.ensures

pub returns-in-Err-open : goal.returns-in-Err-open
returns-in-Err-open g c = λ script idle.
    not_loaded _ (Form.Upgrade c.args.old_file.now c.args.new_file.now) (fault.Unlawful c.in-Err-open.why) _
    (record { form = refl; unread = idle; kept = c.in-Ok.ensures.kept; counted = c.in-Err-open.ensures.grows })
    (file_unlawful _ c.args.old_file.now c.in-Ok.bytes.items c.deref.result.now _ c.deref.ensures.value c.in-Ok.ensures.whole c.in-Ok.ensures.short c.in-Err-open.ensures.fault)
    tt tt c.end_loading-in-Err-open.ensures

pub returns-in-Err-line_of_counts : goal.returns-in-Err-line_of_counts
returns-in-Err-line_of_counts g c = λ script idle.
    wanting _ (Form.Upgrade c.args.old_file.now c.args.new_file.now) (record { form = refl; unread = idle; kept = c.in-Ok.ensures.kept; counted = c.in-Ok-open.ensures.grows }) refl

pub returns-in-Err-upgraded : goal.returns-in-Err-upgraded
returns-in-Err-upgraded g c = λ script idle.
    let start = c.in-Ok-open.ensures.grows in
    let more = c.upgraded.ensures.grows in
    wanting _ (Form.Upgrade c.args.old_file.now c.args.new_file.now) (record { form = refl; unread = idle; kept = c.in-Ok.ensures.kept; counted = omega (arith, start, more) }) refl

pub returns-in-Ok-write_file : goal.returns-in-Ok-write_file
returns-in-Ok-write_file g c = λ script idle.
    let seen = c.deref.result.now in
    let lawful = lawful_from seen c.in-Ok-open.ensures.fault in
    let start = c.in-Ok-open.ensures.grows in
    let more = c.upgraded.ensures.grows in
    let line = c.in-Ok-line_of_counts.ensures ∙ ap (counts_line (codes "upgraded")) (map_is seen _ (c.of-served.ensures ∙ c.in-Ok-open.ensures.contents)) in
    let Q : List ℕ → Type 0 = λ text. IsTold text status.Done c.tell.result (sink_call g.K.Sink.held g.K.Sink.faults c.args.out.now c.tell.new.out) in
    let W : List ℕ → Type 0 = IsWhole (g.H.Shelf.files c.args.shelf.now) c.args.old_file.now in
    upgraded _ c.args.old_file.now c.args.new_file.now (map_of_file seen) seen c.in-Ok-upgraded.image.items _
    (record {
      telling = record {
        form = refl;
        are = file_lawful _ c.args.old_file.now c.in-Ok.bytes.items seen c.deref.ensures.value c.in-Ok.ensures.whole c.in-Ok.ensures.short c.in-Ok-open.ensures.fault;
        consistent = lawful_consistent seen lawful;
        unread = idle;
        grows = omega (arith, start, more);
      };
      whole = subst W (sym c.deref.ensures.value) c.in-Ok.ensures.whole;
      lawful = lawful;
      is = c.in-Ok-upgraded.ensures.upgrade seen (c.of-served.ensures ∙ c.in-Ok-open.ensures.contents);
    })
    (written_since _ _ _ _ _ (Holds c.args.new_file.now) c.deref-2.ensures.value c.in-Ok.ensures.kept c.in-Ok-write_file.ensures.written)
    (subst Q (c.deref-in-Ok-write_file.ensures.value ∙ line) c.tell.ensures)

pub returns : goal.returns
returns g c = λ script idle.
    let seen = c.deref.result.now in
    let lawful = lawful_from seen c.in-Ok-open.ensures.fault in
    let start = c.in-Ok-open.ensures.grows in
    let more = c.upgraded.ensures.grows in
    let W : List ℕ → Type 0 = IsWhole (g.H.Shelf.files c.args.shelf.now) c.args.old_file.now in
    upgrade_unwritten _ c.args.old_file.now c.args.new_file.now (map_of_file seen) seen c.in-Ok-upgraded.image.items
    (record {
      telling = record {
        form = refl;
        are = file_lawful _ c.args.old_file.now c.in-Ok.bytes.items seen c.deref.ensures.value c.in-Ok.ensures.whole c.in-Ok.ensures.short c.in-Ok-open.ensures.fault;
        consistent = lawful_consistent seen lawful;
        unread = idle;
        grows = omega (arith, start, more);
      };
      whole = subst W (sym c.deref.ensures.value) c.in-Ok.ensures.whole;
      lawful = lawful;
      is = c.in-Ok-upgraded.ensures.upgrade seen (c.of-served.ensures ∙ c.in-Ok-open.ensures.contents);
    })
    (written_since _ _ _ _ _ (HoldsFront c.args.new_file.now) c.deref-2.ensures.value c.in-Ok.ensures.kept c.in-Err-write_file.ensures.part)
    (rose_since _ _ _ c.in-Ok.ensures.no_write_fault c.in-Err-write_file.ensures.rose) refl
