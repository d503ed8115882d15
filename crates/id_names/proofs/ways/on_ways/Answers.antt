use Rattle.std.proofs.Common.{◌≡◌, ◌+◌, ◌∙◌, length, sym, subst, arith}
use Rattle.bit_words.specs.PackedView.{fields_of}
use Rattle.rank_select.specs.RankView.{counted}
use Rattle.id_names.specs.Ways.{IsOnWay, AreMany}
use Rattle.id_names.proofs.Waiting.{AreCounted, counted_none, counted_on, counted_waits, counted_both, counted_last}
use Rattle.id_names.proofs.ways.on_ways.Goals as goal
use Rattle.id_names.proofs.ways.on_ways.Goals.{then-bit+in-None, then-bit+in-Some+in_ok-from_first-in-Some, else-bit}

pub loop-mark-init : goal.loop-mark-init
loop-mark-init g c =
    let v = c.args.inverse in
    counted_none (fields_of v.places) (counted v.marks) (fields_of v.back) c.args.steps.now

pub loop-mark-preserved : goal.loop-mark-preserved
loop-mark-preserved g c =
    let v = c.args.inverse in
    let places = fields_of v.places in
    let marks = counted v.marks in
    let back = fields_of v.back in
    let initial = c.args.steps.now in
    let mark = c.loop-mark.mark in
    let count = c.loop-mark.count in
    let steps = c.loop-mark.steps in
    let before = c.loop-mark.invariant in
    elim c.if-bit.branch [
      | then-bit+in-None w ↦
          rw (w.count-is, w.waiting-is, w.steps-is, c.bit.ensures.one_step)
          (counted_waits places marks back initial mark count steps (subst (λ waiting. AreCounted places marks back initial mark count waiting steps) (sym w.take.ensures.value ∙ w.in-None.is) before))
      | then-bit+in-Some+in_ok-from_first-in-Some w ↦
          let both = w.in_ok-from_first-in-Some in
          let ways = both.ensures in
          rw (w.count-is, w.waiting-is, w.steps-is, w.take.ensures.after)
          (counted_both places marks back initial mark count w.in-Some.first both.from_first both.from_mark steps w.two_ways.new.steps
          (subst (λ waiting. AreCounted places marks back initial mark count waiting steps) (sym w.take.ensures.value ∙ w.in-Some.is) before) ways.first ways.second ways.few
          (omega (arith, c.bit.ensures.one_step, ways.grows)) (omega (arith, c.bit.ensures.one_step, ways.cost)))
      | else-bit w ↦ rw (w.count-is, w.waiting-is, w.steps-is, c.bit.ensures.one_step) (counted_on places marks back initial mark count c.loop-mark.waiting steps before)
    ]

pub returns-in_ok-count-clause-many : goal.returns-in_ok-count-clause-many
returns-in_ok-count-clause-many g c =
    let v = c.args.inverse in
    let places = fields_of v.places in
    let marks = counted v.marks in
    let back = fields_of v.back in
    let count = c.loop-mark.count in
    let more = c.in_ok-count.field-0 in
    let all : c.loop-mark.mark ≡ length places = omega (arith, c.loop-mark.auto.mark-end, c.count-mark-end.ensures, c.loop-mark-test.false) in
    subst (λ bound. AreMany (IsOnWay places marks back bound) (count + more)) all
    (counted_last places marks back c.args.steps.now c.loop-mark.mark count c.in-Some-waiting.last more c.loop-mark.steps
    (subst (λ waiting. AreCounted places marks back c.args.steps.now c.loop-mark.mark count waiting c.loop-mark.steps) c.in-Some-waiting.is c.loop-mark.invariant) c.in_ok-count.ensures.way)
