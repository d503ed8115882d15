use Rattle.std.proofs.Common.{◌≡◌, ◌<◌, false, length, get_or, sym, ◌∙◌, subst, arith}
use Rattle.bit_words.specs.PackedView.{fields_of}
use Rattle.rank_select.specs.RankView.{counted}
use Rattle.id_names.proofs.Following.{above_more}
use Rattle.id_names.proofs.ways.short_cycle.Goals as goal

pub loop-passed-preserved : goal.loop-passed-preserved
loop-passed-preserved g c =
    let v = c.args.inverse in
    let places = fields_of v.places in
    let number = c.loop-passed.number in
    let next = c.field-number.result in
    let within : next < length places = omega (arith, c.if-number-count.false, c.count-in-loop-passed.ensures) in
    let above : c.args.least < next = omega (arith, c.if-number-least.false, c.if-number-least-2.false) in
    let free : get_or (counted v.marks) number false ≡ false = subst (λ bits. get_or bits number false ≡ false) c.bits.ensures.bits (sym c.bit.ensures.bit ∙ c.if-bit.false) in
    record {
      followed = above_more places (counted v.marks) c.args.least number next c.loop-passed.passed c.loop-passed.invariant.followed free c.field-number.ensures.field within above;
      within = within;
      grows = omega (arith, c.loop-passed.invariant.grows, c.field-number.ensures.some_steps, c.bit.ensures.one_step);
      steps = omega (arith, c.loop-passed.invariant.steps, c.field-number.ensures.few_steps, c.bit.ensures.one_step);
    }
