use Rattle.std.proofs.Common.{Some, ap, ◌∙◌}
use Rattle.topo_csv.proofs.field.below_zero.Goals as goal
use Rattle.topo_csv.proofs.Numbers.{below_zero_is, first_there, negated, none_there, sign_alone, zero_behind_sign}

pub returns-then-first-eq48 : goal.returns-then-first-eq48
returns-then-first-eq48 c =
    let first = first_there c.args.text.now c.in_ok-first.field-0.now c.in_ok-first.ensures.lookup.0 c.in_ok-first.ensures.lookup.1 in
    zero_behind_sign c.args.text.now c.args.number c.in_ok-first.field-0.now c.requires.spelled first c.if-first-eq48.true

pub returns-else-first-eq48 : goal.returns-else-first-eq48
returns-else-first-eq48 c =
    let first = first_there c.args.text.now c.in_ok-first.field-0.now c.in_ok-first.ensures.lookup.0 c.in_ok-first.ensures.lookup.1 in
    ap Some (negated c.args.number c.requires.small) ∙ below_zero_is c.args.text.now c.args.number c.in_ok-first.field-0.now c.requires.spelled c.requires.small first c.if-first-eq48.false

pub returns-in_err-first : goal.returns-in_err-first
returns-in_err-first c = c.from_residual.ensures ∙ sign_alone c.args.text.now c.args.number c.requires.spelled (none_there c.args.text.now c.in_err-first.ensures.lookup.0)
