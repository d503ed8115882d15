use Rattle.std.proofs.Common.{◌≡◌, ap, sym, ◌∙◌}
use Rattle.code_laws.specs.Code.{component_of}
use Rattle.turan_code.specs.TuranView.{code_of_view}
use Rattle.turan_code.proofs.Views.{first_found, mate_component}
use Rattle.turan_code.proofs.view.TuranView.stop.Goals as goal
use Rattle.turan_code.proofs.view.TuranView.stop.Goals.{then-seen-kind, else-seen-kind}

pub returns-clause-first : goal.returns-clause-first
returns-clause-first g c =
    let v = c.args.self.now in
    let seen = c.see-seen.ensures.seen in
    seen.first ∙ first_found (code_of_view v) v.sound c.see-seen.result.tree c.args.p c.see-seen.result.place (sym seen.tree) seen.place

pub returns-clause-component : goal.returns-clause-component
returns-clause-component g c =
    let v = c.args.self.now in
    let code = code_of_view v in
    let same : component_of code c.if-seen-kind.over ≡ component_of code c.args.p = elim c.if-seen-kind.branch [
      | then-seen-kind w ↦ ap (component_of code) (w.over-is ∙ w.mate_of_seen-over.ensures.mate) ∙ mate_component code v.sound c.args.p c.requires
      | else-seen-kind w ↦ ap (component_of code) w.over-is
    ] in
    c.after.ensures.component ∙ same
