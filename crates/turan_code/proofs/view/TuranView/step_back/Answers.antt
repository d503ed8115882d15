use Rattle.std.proofs.Common.{◌≡◌, ap, sym, ◌∙◌, subst}
use Rattle.code_laws.specs.Code.{over, step, step_back}
use Rattle.code_laws.proofs.Sound.{sound_parts}
use Rattle.code_laws.proofs.Backs.{step_laws}
use Rattle.turan_code.specs.TuranView.{code_of_view}
use Rattle.turan_code.proofs.view.TuranView.step_back.Goals as goal

pub returns-clause-undone : goal.returns-clause-undone
returns-clause-undone g c =
    let v = c.args.self.now in
    let code = code_of_view v in
    let back : c.over.result ≡ step_back code c.args.kind c.args.p = c.over.ensures.over ∙ ap (over code c.args.kind) c.before-before.ensures.before in
    subst (λ x. step code c.args.kind x ≡ c.args.p) (sym back) (step_laws code (sound_parts code v.sound) c.args.kind c.args.p c.requires).forth
