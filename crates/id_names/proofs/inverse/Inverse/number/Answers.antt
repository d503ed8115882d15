use Rattle.std.proofs.Common.{◌≡◌, ℕ, ◌+◌, ◌-◌, ◌<◌, ◌≤◌, Bool, true, false, length, get_or, refl, ap, sym, ◌∙◌, subst, arith, Some, None, ◌≢◌}
use Rattle.std.specs.Prelude.{if◌then◌else◌}
use Rattle.bit_words.specs.Digits.{digits}
use Rattle.bit_words.specs.PackedView.{fields_of}
use Rattle.rank_select.specs.RankView.{counted}
use Rattle.id_names.specs.Inverse.{walk, stride, back_from}
use Rattle.id_names.proofs.Walks.{mark_within, walk_past, walk_here, walk_ends, walked, left_jumped, left_followed, clear_first, clear_second}
use Rattle.id_names.proofs.inverse.Inverse.number.Goals as goal
use Rattle.id_names.proofs.inverse.Inverse.number.Goals.{then-may_jump+then-bit, else-may_jump, else-may_jump-via-then-may_jump+else-bit, else-may_jump-via-else-may_jump}

-- what the jump may cost
slack_few : (may : Bool) → (if may then 0 else 11) ≤ 11
slack_few true = omega arith
slack_few false = omega arith

slack_jumped : (may later : Bool) → may ≡ true → later ≡ false → (if may then 0 else 11) + 11 ≡ (if later then 0 else 11)
slack_jumped true false e f = refl
slack_jumped true true e f = cc
slack_jumped false later e f = cc

slack_same : (may later : Bool) → later ≡ may → ◌≡◌ {A = ℕ} (if later then 0 else 11) (if may then 0 else 11)
slack_same true true e = refl
slack_same false false e = refl
slack_same true false e = cc
slack_same false true e = cc

pub loop-test-init : goal.loop-test-init
loop-test-init g c = record {
  left = let e : c.binary_digits-tests.result + 1 - 0 ≡ c.binary_digits-tests.result + 1 = omega arith in ap (λ t. walk (fields_of c.args.self.now.places) (counted c.args.self.now.marks) (fields_of c.args.self.now.back) c.args.place t true c.args.place) e;
  grows = omega arith;
  steps = omega arith;
}

pub returns-then-number-count-clause-number : goal.returns-then-number-count-clause-number
returns-then-number-count-clause-number g c =
    let places = fields_of c.args.self.now.places in
    let marks = counted c.args.self.now.marks in
    let back = fields_of c.args.self.now.back in
    let j = c.args.place in
    let x = c.loop-test.number in
    let may = c.loop-test.may_jump in
    let n = c.binary_digits-tests.result in
    walked places marks back j c.count.result n c.loop-test._test x may (None) c.count.ensures c.binary_digits-tests.ensures.count c.loop-test.invariant.left
    (walk_past places marks back j (n + 1 - c.loop-test._test) x may (omega (arith, c.count-in-loop-test.ensures)))

pub returns-then-number-count-clause-grows : goal.returns-then-number-count-clause-grows
returns-then-number-count-clause-grows g c = c.loop-test.invariant.grows

pub returns-then-number-count-clause-cost : goal.returns-then-number-count-clause-cost
returns-then-number-count-clause-cost g c =
    let e : c.binary_digits-tests.result ≡ stride (length (fields_of c.args.self.now.places)) = c.binary_digits-tests.ensures.count ∙ ap (λ c. digits (c + 2)) c.count.ensures in
    omega (arith, e, c.loop-test.invariant.steps, slack_few c.loop-test.may_jump)

pub returns-then-next-place-clause-number : goal.returns-then-next-place-clause-number
returns-then-next-place-clause-number g c =
    let places = fields_of c.args.self.now.places in
    let marks = counted c.args.self.now.marks in
    let back = fields_of c.args.self.now.back in
    let j = c.args.place in
    let x = c.loop-test.number in
    let may = c.loop-test.may_jump in
    let n = c.binary_digits-tests.result in
    walked places marks back j c.count.result n c.loop-test._test x may (Some x) c.count.ensures c.binary_digits-tests.ensures.count c.loop-test.invariant.left
    (walk_here places marks back j (n + 1 - c.loop-test._test) x may (omega arith) (omega (arith, c.count-in-loop-test.ensures)) (sym c.field-next.ensures.field ∙ c.if-next-place.true))

pub returns-then-next-place-clause-grows : goal.returns-then-next-place-clause-grows
returns-then-next-place-clause-grows g c = omega (arith, c.loop-test.invariant.grows, c.field-next.ensures.some_steps)

pub returns-then-next-place-clause-cost : goal.returns-then-next-place-clause-cost
returns-then-next-place-clause-cost g c =
    let e : c.binary_digits-tests.result ≡ stride (length (fields_of c.args.self.now.places)) = c.binary_digits-tests.ensures.count ∙ ap (λ c. digits (c + 2)) c.count.ensures in
    omega (arith, e, c.loop-test.invariant.steps, slack_few c.loop-test.may_jump, c.field-next.ensures.few_steps)

pub field-number-requires : goal.field-number-requires
field-number-requires g c =
    let marks = counted c.args.self.now.marks in
    let set : get_or marks c.loop-test.number false ≡ true = subst (λ bits. get_or bits c.loop-test.number false ≡ true) c.bits.ensures.bits (sym c.bit.ensures.bit ∙ c.if-bit.true) in
    omega (arith, mark_within marks c.loop-test.number (omega (arith, c.args.self.now.size, c.count-in-loop-test.ensures)) set, c.args.self.now.ones, c.rank1-mark.ensures.rank)

pub loop-test-preserved : goal.loop-test-preserved
loop-test-preserved g c =
    let places = fields_of c.args.self.now.places in
    let marks = counted c.args.self.now.marks in
    let back = fields_of c.args.self.now.back in
    let j = c.args.place in
    let x = c.loop-test.number in
    let may = c.loop-test.may_jump in
    let tests = c.binary_digits-tests.result + 1 in
    let i = c.loop-test._test in
    let within : x < length places = omega (arith, c.count-in-loop-test.ensures) in
    let other : get_or places x 0 ≢ j = λ e. c.if-next-place.false (c.field-next.ensures.field ∙ e) in
    elim c.if-may_jump.branch [
      | then-may_jump+then-bit w ↦
          let set : get_or marks x false ≡ true = subst (λ bits. get_or bits x false ≡ true) w.bits.ensures.bits (sym w.bit.ensures.bit ∙ w.if-bit.true) in
          let to : c.if-may_jump.number ≡ back_from marks back x = w.number-is ∙ w.field-number.ensures.field ∙ ap (λ k. get_or back k 0) w.rank1-mark.ensures.rank in
          record {
            left = left_jumped places marks back j tests i x c.if-may_jump.number may c.if-may_jump.may_jump (walk places marks back j tests true j) c.loop-test-test.true c.loop-test.invariant.left within other w.if-may_jump.true set w.may_jump-is to;
            grows = rw w.steps-is (omega (arith, c.loop-test.invariant.grows, c.field-next.ensures.some_steps, w.bit.ensures.one_step, w.rank1-mark.ensures.some_steps, w.field-number.ensures.some_steps));
            steps = rw w.steps-is (omega (arith, c.loop-test.invariant.steps, c.field-next.ensures.few_steps, w.bit.ensures.one_step, w.rank1-mark.ensures.cost, w.field-number.ensures.few_steps, slack_jumped may c.if-may_jump.may_jump w.if-may_jump.true w.may_jump-is));
          }
      | else-may_jump w ↦
          let same = slack_same may c.if-may_jump.may_jump w.may_jump-is in
          let to : c.if-may_jump.number ≡ get_or places x 0 = w.number-is ∙ c.field-next.ensures.field in
          elim w.else-may_jump.branch [
            | else-may_jump-via-then-may_jump+else-bit w' ↦
                let clear : get_or marks x false ≡ false = subst (λ bits. get_or bits x false ≡ false) w'.bits.ensures.bits (sym w'.bit.ensures.bit ∙ w'.if-bit.false) in
                record {
                  left = left_followed places marks back j tests i x c.if-may_jump.number may c.if-may_jump.may_jump (walk places marks back j tests true j) c.loop-test-test.true c.loop-test.invariant.left within other (clear_second may (get_or marks x false) clear) w.may_jump-is to;
                  grows = rw (w.steps-is, w'.steps-is) (omega (arith, c.loop-test.invariant.grows, c.field-next.ensures.some_steps, w'.bit.ensures.one_step));
                  steps = rw (w.steps-is, w'.steps-is) (omega (arith, c.loop-test.invariant.steps, c.field-next.ensures.few_steps, w'.bit.ensures.one_step, same));
                }
            | else-may_jump-via-else-may_jump w' ↦
                record {
                  left = left_followed places marks back j tests i x c.if-may_jump.number may c.if-may_jump.may_jump (walk places marks back j tests true j) c.loop-test-test.true c.loop-test.invariant.left within other (clear_first may (get_or marks x false) w'.if-may_jump.false) w.may_jump-is to;
                  grows = rw (w.steps-is, w'.steps-is) (omega (arith, c.loop-test.invariant.grows, c.field-next.ensures.some_steps));
                  steps = rw (w.steps-is, w'.steps-is) (omega (arith, c.loop-test.invariant.steps, c.field-next.ensures.few_steps, same));
                }
          ]
    ]

pub returns-clause-number : goal.returns-clause-number
returns-clause-number g c =
    let places = fields_of c.args.self.now.places in
    let marks = counted c.args.self.now.marks in
    let back = fields_of c.args.self.now.back in
    let j = c.args.place in
    let x = c.loop-test.number in
    let may = c.loop-test.may_jump in
    let n = c.binary_digits-tests.result in
    walked places marks back j c.count.result n c.loop-test._test x may (None) c.count.ensures c.binary_digits-tests.ensures.count c.loop-test.invariant.left
    (walk_ends places marks back j (n + 1 - c.loop-test._test) x may (omega arith))

pub returns-clause-grows : goal.returns-clause-grows
returns-clause-grows g c = c.loop-test.invariant.grows

pub returns-clause-cost : goal.returns-clause-cost
returns-clause-cost g c =
    let e : c.binary_digits-tests.result ≡ stride (length (fields_of c.args.self.now.places)) = c.binary_digits-tests.ensures.count ∙ ap (λ c. digits (c + 2)) c.count.ensures in
    omega (arith, e, c.loop-test.invariant.steps, slack_few c.loop-test.may_jump)
