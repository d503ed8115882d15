use Rattle.std.proofs.Common.{length, ap, ◌∙◌, arith}
use Rattle.id_names.specs.Making.{low_parts}
use Rattle.id_names.proofs.HighLaws.{high_few}
use Rattle.id_names.proofs.SortedIds.{are_rising, lows_are}
use Rattle.id_names.proofs.Held.{held}
use Rattle.id_names.proofs.rising_words.rising_words.Goals as goal

pub make_counts-requires : goal.make_counts-requires
make_counts-requires c = omega (arith, high_few c.args.low c.args.ids.now, ap length c.in_ok-high.ensures, c.requires.few)

pub lows-requires-clause-few : goal.lows-requires-clause-few
lows-requires-clause-few c =
    let r = are_rising c.args.ids.now c.args.entries.now c.requires.distinct c.requires.sorted in
    omega (arith, r.size, c.requires.few)

pub returns-clause-lows : goal.returns-clause-lows
returns-clause-lows c =
    let r = are_rising c.args.ids.now c.args.entries.now c.requires.distinct c.requires.sorted in
    let items = lows_are c.args.ids.now c.args.entries.now r c.args.low in
    held c.finish-3.result.items c.args.low (low_parts c.args.low c.args.ids.now) c.in_ok-lows.lows (c.in_ok-lows.ensures ∙ ap (λ xs. record { width = c.args.low; items = xs }) items) c.finish-3.ensures.packs c.finish-3.ensures.fields
