use Rattle.std.proofs.Common.{◌+◌, sym, subst}
use Rattle.id_names.proofs.HighBits.{IsPushing, pushing_next}
use Rattle.id_names.proofs.rising_words.push_ones.Goals as goal

pub loop-place-preserved : goal.loop-place-preserved
loop-place-preserved c =
    subst (IsPushing c.args.low c.args.high c.args.entries.now c.args.from (c.loop-place.place + 1) c.args.bits.now) (sym c.in_ok-push.ensures.ok)
    (pushing_next c.args.low c.args.high c.args.entries.now c.args.from c.args.bits.now c.loop-place.place c.loop-place.bits c.loop-place.invariant c.loop-place-test.true c.if-entries-place.true)
