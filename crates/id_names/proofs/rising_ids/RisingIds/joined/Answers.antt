use Rattle.std.proofs.Common.{◌≡◌, ◌<◌, ◌+◌, ◌-◌, ◌*◌, ◌^◌, get_or, length, ap, sym, ◌∙◌, arith, true}
use Rattle.bit_words.specs.Digits.{digits}
use Rattle.bit_words.specs.PackedView.{fields_of, width_of}
use Rattle.bit_words.specs.WordView.{words_of}
use Rattle.bit_words.proofs.Ranks.{rank-le}
use Rattle.rank_select.specs.RankView.{counted}
use Rattle.id_names.specs.Rising.{high_part, rising_at}
use Rattle.id_names.proofs.HighParts.{high_found, high_few}
use Rattle.id_names.proofs.Ids.{field_small, parts_fit}
use Rattle.id_names.proofs.rising_ids.RisingIds.joined.Goals as goal

pub overflow_sub-high : goal.overflow_sub-high
overflow_sub-high c = omega (arith, c.requires.selected.2, rank-le true (counted c.args.self.now.high) c.args.one)

pub overflow_add-result : goal.overflow_add-result
overflow_add-result c =
    let v = c.args.self.now in
    let high = counted v.high in
    let lows = fields_of v.lows in
    let place = c.args.place in
    let low = width_of v.lows in
    let h = high_found high place c.args.one c.requires.selected in
    let few = high_few high place (omega (arith, v.ones)) in
    let small : get_or lows place 0 < 2 ^ low = field_small (words_of v.lows.words) v.lows.count v.lows.width place c.requires.within in
    let fit : high_part high place * 2 ^ low + get_or lows place 0 < 2 ^ 64 = parts_fit (high_part high place) (digits (length lows)) low (get_or lows place 0) (omega (arith, few, v.ones, v.size)) small v.narrow in
    let e : (c.args.one - place) * 2 ^ c.width.result ≡ high_part high place * 2 ^ low = ap (λ x. (c.args.one - place) * 2 ^ x) c.width.ensures ∙ ap (λ x. x * 2 ^ low) (sym h) in
    omega (arith, fit, e, c.requires.low)

pub returns : goal.returns
unfolding rising_at
returns c =
    let v = c.args.self.now in
    let high = counted v.high in
    let lows = fields_of v.lows in
    let place = c.args.place in
    let low = width_of v.lows in
    let h = high_found high place c.args.one c.requires.selected in
    let few = high_few high place (omega (arith, v.ones)) in
    let small : get_or lows place 0 < 2 ^ low = field_small (words_of v.lows.words) v.lows.count v.lows.width place c.requires.within in
    let fit : high_part high place * 2 ^ low + get_or lows place 0 < 2 ^ 64 = parts_fit (high_part high place) (digits (length lows)) low (get_or lows place 0) (omega (arith, few, v.ones, v.size)) small v.narrow in
    let e : (c.args.one - place) * 2 ^ c.width.result ≡ high_part high place * 2 ^ low = ap (λ x. (c.args.one - place) * 2 ^ x) c.width.ensures ∙ ap (λ x. x * 2 ^ low) (sym h) in
    omega (arith, fit, e, c.requires.low)
