use Rattle.std.proofs.Common.{◌≡◌, ◌∙◌, ◌+◌, ◌≤◌, ap, subst, refl, List, ℕ, arith, codes, sym}
use Rattle.plane_model.specs.PlaneMap.{PlaneMap, map_of}
use Rattle.ports.specs.Outside.{Holds, HoldsFront}
use Rattle.file_laws.specs.Lawful.{map_of_file}
use Rattle.topo_cli.specs.declared.status.Status.TheVariants as status
use Rattle.topo_cli.specs.Call.{sink_call}
use Rattle.topo_cli.specs.Ended.{IsTold}
use Rattle.topo_cli.specs.Outcome.{IsImageOf}
use Rattle.topo_cli.specs.Text.{counts_line}
use Rattle.navigate.specs.Bound.{map_with}
use Rattle.topo_cli.specs.Words.{Form}
use Rattle.topo_cli.proofs.Built.{built, fits_build, image_unwritten, rose_since, written_since}
use Rattle.topo_cli.proofs.Statuses.{not_loaded, wanting}
use Rattle.topo_cli.proofs.top.build_file.Goals as goal

pub returns-in-Err : goal.returns-in-Err
returns-in-Err g c = λ script idle.
    not_loaded _ (Form.Build c.args.dir.now c.args.file.now) c.in-Err.why _
    (record { form = refl; unread = idle; kept = c.in-Err.ensures.kept; counted = omega arith })
    c.in-Err.ensures.ends (fits_build c.args.dir.now c.args.file.now _ c.in-Err.ensures.named) c.in-Err.ensures.shown c.end_loading.ensures

pub returns-in-Err-line_of_counts : goal.returns-in-Err-line_of_counts
returns-in-Err-line_of_counts g c = λ script idle.
    wanting _ (Form.Build c.args.dir.now c.args.file.now) (record { form = refl; unread = idle; kept = c.in-Ok.ensures.kept; counted = c.open_draft-opened.ensures.grows }) refl

pub returns-in-Ok-write_file : goal.returns-in-Ok-write_file
returns-in-Ok-write_file g c = λ script idle.
    let b = c.in-Ok.ensures.built in
    let is = subst (IsImageOf b.tables) (sym c.seal-image.ensures.file) b.is in
    let line = c.in-Ok-line_of_counts.ensures ∙ ap (counts_line (codes "built")) (ap map_with c.of-served.ensures ∙ c.open_draft-opened.ensures.map ∙ b.is.stands.2) in
    let Q : List ℕ → Type 0 = λ text. IsTold text status.Done c.tell.result (sink_call g.K.Sink.held g.K.Sink.faults c.args.out.now c.tell.new.out) in
    let held = written_since _ _ _ _ _ (Holds c.args.file.now) c.deref.ensures.value c.in-Ok.ensures.kept c.in-Ok-write_file.ensures.written in
    built _ c.args.dir.now c.args.file.now b.tables c.seal-image.result.items _
    (record { form = refl; are = b.are; consistent = b.consistent; unread = idle; grows = c.open_draft-opened.ensures.grows })
    is c.open_draft-opened.ensures.few held
    (subst Q (c.deref-in-Ok-write_file.ensures.value ∙ line) c.tell.ensures)

pub returns : goal.returns
returns g c = λ script idle.
    let b = c.in-Ok.ensures.built in
    let is = subst (IsImageOf b.tables) (sym c.seal-image.ensures.file) b.is in
    image_unwritten _ c.args.dir.now c.args.file.now b.tables c.seal-image.result.items
    (record { form = refl; are = b.are; consistent = b.consistent; unread = idle; grows = c.open_draft-opened.ensures.grows })
    is
    (written_since _ _ _ _ _ (HoldsFront c.args.file.now) c.deref.ensures.value c.in-Ok.ensures.kept c.in-Err-write_file.ensures.part)
    (rose_since _ _ _ c.in-Ok.ensures.no_write_fault c.in-Err-write_file.ensures.rose) refl
