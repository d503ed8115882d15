use Rattle.std.proofs.Common.{◌≡◌, ◌<◌, ◌≤◌, ◌+◌, refl, sym, ◌∙◌, arith}
use Rattle.bit_words.proofs.Ranks.{rank-zero}
use Rattle.code_laws.specs.Code.{place, component_count}
use Rattle.code_laws.specs.SeqFault.{is_balanced_in}
use Rattle.code_laws.proofs.Sound.{start_within, places_within, first_start}
use Rattle.turan_code.specs.Sequences.{code_of_sequences}
use Rattle.turan_code.proofs.Faults.{balance_fault_at, no_balance_fault, laid, fewer, passed_one, end_after, end_within, part_within, part_at}
use Rattle.turan_code.proofs.sequences.Sequences.unbalanced.Goals as goal

pub loop-component-init : goal.loop-component-init
loop-component-init g c =
    let code = code_of_sequences c.args.self.now in
    record {
      begins = sym (first_start code (laid code c.requires));
      places = sym (rank-zero c.args.kind code.a);
      passed = λ k l. absurd (omega arith);
      grows = omega arith;
      count = omega arith;
    }

pub field-end-requires : goal.field-end-requires
field-end-requires g c = omega (arith, c.loop-component-test.true, c.count-component-end.ensures)

pub places_between-requires-clause-few : goal.places_between-requires-clause-few
places_between-requires-clause-few g c = c.requires.few

pub places_between-requires-clause-order : goal.places_between-requires-clause-order
places_between-requires-clause-order g c =
    let l = c.loop-component in
    end_after (code_of_sequences c.args.self.now) c.requires l.component l.start c.field-end.result (omega (arith, c.loop-component-test.true, c.count-component-end.ensures)) l.invariant.begins c.field-end.ensures.field

pub places_between-requires-clause-within : goal.places_between-requires-clause-within
places_between-requires-clause-within g c =
    end_within (code_of_sequences c.args.self.now) c.requires c.loop-component.component c.field-end.result (omega (arith, c.loop-component-test.true, c.count-component-end.ensures)) c.field-end.ensures.field

pub overflow_add-next : goal.overflow_add-next
overflow_add-next g c =
    let code = code_of_sequences c.args.self.now in
    let l = c.loop-component in
    let within = part_within code c.requires c.args.kind l.component c.field-end.result (omega (arith, c.loop-component-test.true, c.count-component-end.ensures)) c.field-end.ensures.field in
    let few = fewer code c.requires.few c.args.kind in
    omega (arith, within, few, l.invariant.places, c.places_between.ensures.places)

pub is_balanced-requires-clause-few : goal.is_balanced-requires-clause-few
is_balanced-requires-clause-few g c = fewer (code_of_sequences c.args.self.now) c.requires.few c.args.kind

pub is_balanced-requires-clause-within : goal.is_balanced-requires-clause-within
is_balanced-requires-clause-within g c =
    let l = c.loop-component in
    let within = part_within (code_of_sequences c.args.self.now) c.requires c.args.kind l.component c.field-end.result (omega (arith, c.loop-component-test.true, c.count-component-end.ensures)) c.field-end.ensures.field in
    omega (arith, within, l.invariant.places, c.places_between.ensures.places)

pub returns-then-not-is_balanced-clause-component : goal.returns-then-not-is_balanced-clause-component
returns-then-not-is_balanced-clause-component g c =
    let code = code_of_sequences c.args.self.now in
    let l = c.loop-component in
    let next = l.place + c.places_between.result in
    let at = part_at code c.args.kind l.component l.start c.field-end.result l.place next l.invariant.begins c.field-end.ensures.field l.invariant.places (omega (arith, l.invariant.places, c.places_between.ensures.places)) in
    balance_fault_at code c.args.kind l.component (omega (arith, c.loop-component-test.true, c.count-component-end.ensures)) l.invariant.passed (sym at ∙ sym c.if-not-is_balanced.ensures.balanced)

pub returns-then-not-is_balanced-clause-cost : goal.returns-then-not-is_balanced-clause-cost
returns-then-not-is_balanced-clause-cost g c =
    let code = code_of_sequences c.args.self.now in
    let l = c.loop-component in
    let test : l.component < component_count code = omega (arith, c.loop-component-test.true, c.count-component-end.ensures) in
    let order = end_after code c.requires l.component l.start c.field-end.result test l.invariant.begins c.field-end.ensures.field in
    let all = end_within code c.requires l.component c.field-end.result test c.field-end.ensures.field in
    let within = part_within code c.requires c.args.kind l.component c.field-end.result test c.field-end.ensures.field in
    let places = l.invariant.places in
    let next = c.places_between.ensures.places in
    let count = l.invariant.count in
    let a = c.field-end.ensures.few_steps in
    let b = c.places_between.ensures.cost in
    let d = c.is_balanced.ensures.cost in
    omega (arith, test, order, all, within, places, next, count, a, b, d)

pub loop-component-preserved : goal.loop-component-preserved
loop-component-preserved g c =
    let code = code_of_sequences c.args.self.now in
    let l = c.loop-component in
    let test : l.component < component_count code = omega (arith, c.loop-component-test.true, c.count-component-end.ensures) in
    let order = end_after code c.requires l.component l.start c.field-end.result test l.invariant.begins c.field-end.ensures.field in
    let places : l.place + c.places_between.result ≡ place code c.args.kind c.field-end.result = omega (arith, l.invariant.places, c.places_between.ensures.places) in
    let at = part_at code c.args.kind l.component l.start c.field-end.result l.place (l.place + c.places_between.result) l.invariant.begins c.field-end.ensures.field l.invariant.places places in
    let count = l.invariant.count in
    let a = c.field-end.ensures.few_steps in
    let b = c.places_between.ensures.cost in
    let d = c.if-not-is_balanced.ensures.cheap refl in
    record {
      begins = c.field-end.ensures.field;
      places = places;
      passed = passed_one (is_balanced_in code c.args.kind) l.component l.invariant.passed (sym at ∙ sym c.if-not-is_balanced.ensures.balanced);
      grows = omega arith;
      count = omega (arith, order, count, a, b, d);
    }

pub returns-clause-component : goal.returns-clause-component
returns-clause-component g c =
    no_balance_fault (code_of_sequences c.args.self.now) c.args.kind c.loop-component.component (omega (arith, c.loop-component-test.false, c.count-component-end.ensures)) c.loop-component.invariant.passed

pub returns-clause-cost : goal.returns-clause-cost
returns-clause-cost g c =
    let code = code_of_sequences c.args.self.now in
    let l = c.loop-component in
    let some = c.requires.few.some in
    let here : l.component ≤ component_count code = omega (arith, l.auto.component-end, c.count-component-end.ensures) in
    let start = start_within code (laid code c.requires) l.component here in
    let within = places_within code (laid code c.requires) c.args.kind l.start (omega (arith, start, l.invariant.begins)) in
    let count = l.invariant.count in
    let places = l.invariant.places in
    let begins = l.invariant.begins in
    omega (arith, some, here, start, within, count, places, begins)
