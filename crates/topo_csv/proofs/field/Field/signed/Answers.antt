use Rattle.std.proofs.Common.{sym, ◌∙◌}
use Rattle.topo_csv.specs.Texts.{text_of}
use Rattle.topo_csv.proofs.Numbers.{no_signed_0, signed_of}
use Rattle.topo_csv.proofs.field.Field.signed.Goals as goal

pub returns-then-branch-eq0 : goal.returns-then-branch-eq0
returns-then-branch-eq0 c = no_signed_0 (text_of c.args.self.now) c.in_ok-self.field-0 (sym c.in_ok-self.was ∙ c.args.self.now.spelled) c.if-branch-eq0.true

pub returns-else-branch-eq0 : goal.returns-else-branch-eq0
returns-else-branch-eq0 c = signed_of (text_of c.args.self.now) c.args.self.now.number c.in_ok-self.field-0 c.args.self.now.spelled c.in_ok-self.was c.if-branch-eq0.false
