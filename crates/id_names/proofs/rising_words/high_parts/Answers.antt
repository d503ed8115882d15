use Rattle.std.proofs.Common.{◌+◌, length, sym, subst, arith}
use Rattle.id_names.proofs.DigitBounds.{power_few}
use Rattle.id_names.proofs.HighBits.{AreBuckets, buckets_next, are_high_bits, high_count, length-pushed}
use Rattle.id_names.proofs.SortedIds.{are_rising}
use Rattle.id_names.proofs.rising_words.high_parts.Goals as goal

pub push_ones-requires-clause-from : goal.push_ones-requires-clause-from
push_ones-requires-clause-from c =
    let r = are_rising c.args.ids.now c.args.entries.now c.requires.distinct c.requires.sorted in
    omega (arith, r.size, c.loop-high.invariant.most)

pub push_ones-requires-clause-room : goal.push_ones-requires-clause-room
push_ones-requires-clause-room c =
    let r = are_rising c.args.ids.now c.args.entries.now c.requires.distinct c.requires.sorted in
    let ends = high_count (length c.args.ids.now) c.args.low c.binary_digits.result c.binary_digits.ensures.count c.requires.narrow in
    let few = power_few (length c.args.ids.now) in
    omega (arith, r.size, c.loop-high.invariant.most, c.loop-high.invariant.size, c.loop-high-test.true, c.requires.few)

pub push-requires : goal.push-requires
push-requires c =
    let r = are_rising c.args.ids.now c.args.entries.now c.requires.distinct c.requires.sorted in
    let ends = high_count (length c.args.ids.now) c.args.low c.binary_digits.result c.binary_digits.ensures.count c.requires.narrow in
    let few = power_few (length c.args.ids.now) in
    let p = c.in_ok-place.ensures in
    let pushed = length-pushed c.args.low c.loop-high.high c.args.entries.now c.loop-high.place c.in_ok-place.place c.loop-high.bits c.push_ones.new.bits p in
    omega (arith, r.size, p.within, c.loop-high.invariant.most, c.loop-high.invariant.size, c.loop-high-test.true, c.requires.few)

pub loop-high-preserved : goal.loop-high-preserved
loop-high-preserved c =
    let ids = c.args.ids.now in
    let entries = c.args.entries.now in
    let r = are_rising ids entries c.requires.distinct c.requires.sorted in
    subst (AreBuckets c.args.low ids entries (c.loop-high.high + 1) c.in_ok-place.place) (sym c.in_ok-push.ensures.ok)
    (buckets_next c.args.low ids entries r c.loop-high.high c.loop-high.place c.in_ok-place.place c.loop-high.bits c.push_ones.new.bits c.loop-high.invariant c.in_ok-place.ensures)

pub returns : goal.returns
returns c =
    let ids = c.args.ids.now in
    let entries = c.args.entries.now in
    let r = are_rising ids entries c.requires.distinct c.requires.sorted in
    let ends = high_count (length ids) c.args.low c.binary_digits.result c.binary_digits.ensures.count c.requires.narrow in
    are_high_bits c.args.low ids entries r c.loop-high.high c.loop-high.place c.loop-high.bits c.loop-high.invariant (omega (arith, c.loop-high-test.false, c.loop-high.auto.high-end))
