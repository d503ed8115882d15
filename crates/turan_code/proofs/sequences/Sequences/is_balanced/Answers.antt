use Rattle.std.proofs.Common.{◌≡◌, ◌≤◌, true, length, sym, subst, arith, Some}
use Rattle.parens.specs.Matching.{is_balanced, balance_fault}
use Rattle.code_laws.specs.Code.{parens}
use Rattle.turan_code.specs.Sequences.{code_of_sequences}
use Rattle.turan_code.proofs.Faults.{no_places, two_places, not_balanced}
use Rattle.turan_code.proofs.sequences.Sequences.is_balanced.Goals as goal

pub returns-then-from-to-clause-balanced : goal.returns-then-from-to-clause-balanced
returns-then-from-to-clause-balanced g c =
    let bits = parens (code_of_sequences c.args.self.now) c.args.kind in
    subst (λ x. true ≡ is_balanced bits c.args.from x) c.if-from-to.true (sym (no_places bits c.args.from))

pub check_balanced-requires-clause-few : goal.check_balanced-requires-clause-few
check_balanced-requires-clause-few g c = subst (λ bits. length bits ≤ 2147483647) (sym c.parens.ensures) c.requires.few

pub check_balanced-requires-clause-within : goal.check_balanced-requires-clause-within
check_balanced-requires-clause-within g c = subst (λ bits. c.args.to ≤ length bits) (sym c.parens.ensures) c.requires.within

pub returns-in-Ok-clause-balanced : goal.returns-in-Ok-clause-balanced
returns-in-Ok-clause-balanced g c = sym (subst (λ bits. is_balanced bits c.args.from c.args.to ≡ true) c.parens.ensures c.in-Ok.ensures.fault)

pub returns-in-Ok-clause-cheap : goal.returns-in-Ok-clause-cheap
returns-in-Ok-clause-cheap g c = λ t.
    let two = two_places (parens (code_of_sequences c.args.self.now) c.args.kind) c.args.from c.args.to (omega (arith, c.requires.order, c.if-from-to.false)) c.requires.within
    (subst (λ bits. is_balanced bits c.args.from c.args.to ≡ true) c.parens.ensures c.in-Ok.ensures.fault) in
    omega (arith, two, c.check_balanced.ensures.cost)

pub returns-in-Err-clause-balanced : goal.returns-in-Err-clause-balanced
returns-in-Err-clause-balanced g c =
    sym (not_balanced (parens (code_of_sequences c.args.self.now) c.args.kind) c.args.from c.args.to c.in-Err.field-0
    (subst (λ bits. balance_fault bits c.args.from c.args.to ≡ Some c.in-Err.field-0) c.parens.ensures c.in-Err.ensures.fault))
