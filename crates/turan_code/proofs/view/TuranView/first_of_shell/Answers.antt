use Rattle.std.proofs.Common.{◌∙◌}
use Rattle.turan_code.specs.TuranView.{code_of_view}
use Rattle.turan_code.proofs.Views.{shell_first, shell_missing, shell_inside}
use Rattle.turan_code.proofs.view.TuranView.first_of_shell.Goals as goal

pub returns-clause-position : goal.returns-clause-position
returns-clause-position g c = let v = c.args.self.now in c.reached_from.ensures.position ∙ shell_first (code_of_view v) v.sound c.args.shell

pub returns-clause-none : goal.returns-clause-none
returns-clause-none g c =
    let v = c.args.self.now in
    shell_missing (code_of_view v) v.sound c.args.shell c.reached_from.result (c.reached_from.ensures.position ∙ shell_first (code_of_view v) v.sound c.args.shell)

pub returns-clause-within : goal.returns-clause-within
returns-clause-within g c =
    let v = c.args.self.now in
    shell_inside (code_of_view v) v.sound c.args.shell c.reached_from.result (c.reached_from.ensures.position ∙ shell_first (code_of_view v) v.sound c.args.shell)
