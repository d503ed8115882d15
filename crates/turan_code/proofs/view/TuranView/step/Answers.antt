use Rattle.std.proofs.Common.{ap, ◌∙◌}
use Rattle.code_laws.specs.Code.{component_of}
use Rattle.turan_code.specs.TuranView.{code_of_view}
use Rattle.turan_code.proofs.Views.{over_component}
use Rattle.turan_code.proofs.view.TuranView.step.Goals as goal

pub returns-clause-component : goal.returns-clause-component
returns-clause-component g c =
    let v = c.args.self.now in
    c.after.ensures.component ∙ ap (component_of (code_of_view v)) c.over-over.ensures.over ∙ over_component (code_of_view v) v.sound c.args.kind c.args.p c.requires
