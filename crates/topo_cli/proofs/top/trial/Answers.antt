use Rattle.std.proofs.Common.{◌≡◌, ◌∙◌, ◌+◌, ◌≤◌, ap, subst, refl, List, ℕ, arith}
use Rattle.plane_model.specs.PlaneMap.{PlaneMap, map_of}
use Rattle.file_laws.specs.Lawful.{map_of_file}
use Rattle.map_maker.specs.Grid.{grid_of}
use Rattle.map_totals.specs.Totals.{adjacent_total, face_total, most_total_words, node_total}
use Rattle.topo_cli.specs.declared.status.Status.TheVariants as status
use Rattle.topo_cli.specs.Call.{sink_call}
use Rattle.topo_cli.specs.Ended.{IsTold}
use Rattle.topo_cli.specs.Text.{trial_text}
use Rattle.navigate.specs.Bound.{map_with}
use Rattle.topo_cli.specs.Words.{Form}
use Rattle.topo_cli.proofs.Built.{told}
use Rattle.topo_cli.proofs.Statuses.{wanting}
use Rattle.topo_cli.proofs.top.trial.Goals as goal

pub returns-in-Ok-trial_lines : goal.returns-in-Ok-trial_lines
returns-in-Ok-trial_lines g c = λ shelf script untouched idle.
    let b = c.in-Ok.ensures.built in
    let t = grid_of c.args.size in
    let served = ap map_with c.of-served.ensures ∙ c.open_draft-opened.ensures.map ∙ b.is.stands.2 in
    let L : PlaneMap → Type 0 = λ m. c.open_draft-opened.new.steps + (face_total m + node_total m + adjacent_total m) ≤ c.trial_lines.new.steps in
    let M : PlaneMap → Type 0 = λ m. c.trial_lines.new.steps ≤ c.open_draft-opened.new.steps + most_total_words m in
    let Q : List ℕ → Type 0 = λ text. IsTold text status.Done c.tell.result (sink_call g.K.Sink.held g.K.Sink.faults c.args.out.now c.tell.new.out) in
    let start = c.open_draft-opened.ensures.grows in
    let opened = c.open_draft-opened.ensures.few in
    let walked = subst L served c.in-Ok-trial_lines.ensures.least in
    let most = subst M served c.in-Ok-trial_lines.ensures.most in
    let more = c.in-Ok-trial_lines.ensures.grows in
    told _ (Form.Trial c.args.size) t _ _
    (record { form = refl; are = b.are; consistent = b.consistent; unread = idle; grows = omega (arith, start, more) })
    (λ wrote. record { wrote = wrote; least = omega (arith, start, walked); most = omega (arith, opened, most) })
    (λ part. part)
    untouched.files untouched.files
    (subst Q (c.deref.ensures.value ∙ c.in-Ok-trial_lines.ensures.text ∙ ap (trial_text c.args.size) served) c.tell.ensures)

pub returns : goal.returns
returns g c = λ shelf script untouched idle.
    let start = c.open_draft-opened.ensures.grows in
    let more = c.in-Err-trial_lines.ensures.grows in
    wanting _ (Form.Trial c.args.size) (record { form = refl; unread = idle; kept = untouched.files; counted = omega (arith, start, more) }) refl
