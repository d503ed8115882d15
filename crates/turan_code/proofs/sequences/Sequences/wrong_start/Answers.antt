use Rattle.std.proofs.Common.{◌≡◌, ◌+◌, ◌-◌, ap, sym, ◌∙◌, arith}
use Rattle.code_laws.specs.Code.{start_of}
use Rattle.code_laws.specs.SeqFault.{is_start}
use Rattle.turan_code.specs.Sequences.{code_of_sequences}
use Rattle.turan_code.proofs.Faults.{start_fault_at, no_start_fault, start_test, passed_one}
use Rattle.turan_code.proofs.sequences.Sequences.wrong_start.Goals as goal

pub loop-index-init : goal.loop-index-init
loop-index-init g c =
    record {
      passed = λ k l. absurd (omega arith);
      last = λ l. absurd (omega arith);
      least = omega arith;
      count = omega arith;
    }

pub field-start-requires : goal.field-start-requires
field-start-requires g c = omega (arith, c.loop-index-test.true, c.count-index-end.ensures)

pub is_start-requires : goal.is_start-requires
is_start-requires g c = omega (arith, c.loop-index-test.true, c.count-index-end.ensures, c.requires.starts)

pub returns-then-not-is_start-clause-index : goal.returns-then-not-is_start-clause-index
returns-then-not-is_start-clause-index g c =
    let code = code_of_sequences c.args.self.now in
    let l = c.loop-index in
    let at = start_test code l.index c.field-start.result l.before c.field-start.ensures.field l.invariant.last in
    start_fault_at code l.index (omega (arith, c.loop-index-test.true, c.count-index-end.ensures)) l.invariant.passed (sym at ∙ sym c.if-not-is_start.ensures)

pub returns-then-not-is_start-clause-cost : goal.returns-then-not-is_start-clause-cost
returns-then-not-is_start-clause-cost g c =
    let count = c.loop-index.invariant.count in
    omega (arith, count, c.loop-index-test.true, c.count-index-end.ensures, c.field-start.ensures.few_steps)

pub loop-index-preserved : goal.loop-index-preserved
loop-index-preserved g c =
    let code = code_of_sequences c.args.self.now in
    let l = c.loop-index in
    let at = start_test code l.index c.field-start.result l.before c.field-start.ensures.field l.invariant.last in
    let e : l.index ≡ l.index + 1 - 1 = omega arith in
    let count = l.invariant.count in
    record {
      passed = passed_one (is_start code) l.index l.invariant.passed (sym at ∙ sym c.if-not-is_start.ensures);
      last = λ some. c.field-start.ensures.field ∙ ap (start_of code) e;
      least = omega arith;
      count = omega (arith, count, c.field-start.ensures.few_steps);
    }

pub returns-clause-index : goal.returns-clause-index
returns-clause-index g c =
    no_start_fault (code_of_sequences c.args.self.now) c.loop-index.index (omega (arith, c.loop-index-test.false, c.count-index-end.ensures)) c.loop-index.invariant.passed

pub returns-clause-cost : goal.returns-clause-cost
returns-clause-cost g c =
    let count = c.loop-index.invariant.count in
    let end = c.loop-index.auto in
    omega (arith, count, end, c.count-index-end.ensures)
