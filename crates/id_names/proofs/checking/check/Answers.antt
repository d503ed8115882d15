use Rattle.std.proofs.Common.{◌≡◌, ◌≤◌, ◌+◌, ◌*◌, length, sym, ◌∙◌, ap, arith}
use Rattle.bit_words.specs.BitView.{bits_of}
use Rattle.bit_words.specs.PackedView.{fields_of, width_of}
use Rattle.rank_select.specs.RankView.{counted}
use Rattle.id_names.specs.Parts.{names_of}
use Rattle.id_names.proofs.CheckCosts.{all_few, bits_few}
use Rattle.id_names.proofs.FaultOrder.{wrong_is, wrong_none, ones_none, ones_other, high_counts_first, ones_first, rising_first, mark_counts_first, mark_ones_first, order_first, no_fault, ones_is, rising_is, ordered_is}
use Rattle.id_names.proofs.checking.check.Goals as goal

pub check_counts-requires-clause-few : goal.check_counts-requires-clause-few
check_counts-requires-clause-few g c =
    bits_few (length (fields_of c.args.parts.places)) (length (bits_of c.args.parts.high)) c.requires.sizes.high c.requires.sizes.few

pub returns-in-Err-clause-checked : goal.returns-in-Err-clause-checked
returns-in-Err-clause-checked g c =
    let p = c.args.parts in
    let high = bits_of p.high in
    let marks = bits_of p.marks in
    let high_counts = fields_of p.high_counts in
    let mark_counts = fields_of p.mark_counts in
    let lows = fields_of p.lows in
    let places = fields_of p.places in
    let back = fields_of p.back in
    let n = length places in
    high_counts_first (names_of p) high_counts mark_counts c.in-Err.wrong.at (wrong_is high high_counts c.in-Err.wrong c.in-Err.ensures.checked)

pub returns-in-Err-clause-cost : goal.returns-in-Err-clause-cost
returns-in-Err-clause-cost g c =
    let n = length (fields_of c.args.parts.places) in
    let all = all_few n (length (bits_of c.args.parts.high)) c.requires.sizes.high in
    omega (arith, all, c.check_counts.ensures.cost)

pub new-high-requires-clause-few : goal.new-high-requires-clause-few
new-high-requires-clause-few g c =
    bits_few (length (fields_of c.args.parts.places)) (length (bits_of c.args.parts.high)) c.requires.sizes.high c.requires.sizes.few

pub returns-then-ones-count-clause-checked : goal.returns-then-ones-count-clause-checked
returns-then-ones-count-clause-checked g c =
    let p = c.args.parts in
    let high = bits_of p.high in
    let marks = bits_of p.marks in
    let high_counts = fields_of p.high_counts in
    let mark_counts = fields_of p.mark_counts in
    let lows = fields_of p.lows in
    let places = fields_of p.places in
    let back = fields_of p.back in
    let n = length places in
    ones_first (names_of p) high_counts mark_counts c.rank1-ones.result (wrong_none high high_counts c.in_default.ensures.checked)
    (ones_other high n c.rank1-ones.result (ones_is high (counted c.new-high.result) c.len.result c.rank1-ones.result c.new-high.ensures c.len.ensures c.rank1-ones.ensures.rank) (λ e. c.if-ones-count.true (e ∙ sym c.count.ensures)))

pub returns-then-ones-count-clause-cost : goal.returns-then-ones-count-clause-cost
returns-then-ones-count-clause-cost g c =
    let n = length (fields_of c.args.parts.places) in
    let all = all_few n (length (bits_of c.args.parts.high)) c.requires.sizes.high in
    omega (arith, all, c.check_counts.ensures.cost, c.rank1-ones.ensures.cost)

pub returns-in-Some-clause-checked : goal.returns-in-Some-clause-checked
returns-in-Some-clause-checked g c =
    let p = c.args.parts in
    let high = bits_of p.high in
    let marks = bits_of p.marks in
    let high_counts = fields_of p.high_counts in
    let mark_counts = fields_of p.mark_counts in
    let lows = fields_of p.lows in
    let places = fields_of p.places in
    let back = fields_of p.back in
    let n = length places in
    rising_first (names_of p) high_counts mark_counts c.in-Some.place (wrong_none high high_counts c.in_default.ensures.checked)
    (ones_none high n c.rank1-ones.result (ones_is high (counted c.new-high.result) c.len.result c.rank1-ones.result c.new-high.ensures c.len.ensures c.rank1-ones.ensures.rank) (c.if-ones-count.false ∙ c.count.ensures))
    ((rising_is high (counted c.new-high.result) lows (width_of p.lows) n (length lows) c.first_not_rising.result c.new-high.ensures c.requires.sizes.lows c.first_not_rising.ensures.place) ∙ c.in-Some.is)

pub returns-in-Some-clause-cost : goal.returns-in-Some-clause-cost
returns-in-Some-clause-cost g c =
    let n = length (fields_of c.args.parts.places) in
    let all = all_few n (length (bits_of c.args.parts.high)) c.requires.sizes.high in
    let bits : length (counted c.new-high.result) ≡ length (bits_of c.args.parts.high) = ap length c.new-high.ensures in
    let rows : c.first_not_rising.new.steps ≤ c.rank1-ones.new.steps + length (bits_of c.args.parts.high) + 2 * n = omega (arith, bits, c.requires.sizes.lows, c.first_not_rising.ensures.cost) in
    omega (arith, all, c.check_counts.ensures.cost, c.rank1-ones.ensures.cost, rows)

pub returns-in-Err-check_counts-clause-checked : goal.returns-in-Err-check_counts-clause-checked
returns-in-Err-check_counts-clause-checked g c =
    let p = c.args.parts in
    let high = bits_of p.high in
    let marks = bits_of p.marks in
    let high_counts = fields_of p.high_counts in
    let mark_counts = fields_of p.mark_counts in
    let lows = fields_of p.lows in
    let places = fields_of p.places in
    let back = fields_of p.back in
    let n = length places in
    mark_counts_first (names_of p) high_counts mark_counts c.in-Err-check_counts.wrong.at (wrong_none high high_counts c.in_default.ensures.checked)
    (ones_none high n c.rank1-ones.result (ones_is high (counted c.new-high.result) c.len.result c.rank1-ones.result c.new-high.ensures c.len.ensures c.rank1-ones.ensures.rank) (c.if-ones-count.false ∙ c.count.ensures))
    ((rising_is high (counted c.new-high.result) lows (width_of p.lows) n (length lows) c.first_not_rising.result c.new-high.ensures c.requires.sizes.lows c.first_not_rising.ensures.place) ∙ c.in_default-first_not_rising.is)
    (wrong_is marks mark_counts c.in-Err-check_counts.wrong c.in-Err-check_counts.ensures.checked)

pub returns-in-Err-check_counts-clause-cost : goal.returns-in-Err-check_counts-clause-cost
returns-in-Err-check_counts-clause-cost g c =
    let n = length (fields_of c.args.parts.places) in
    let all = all_few n (length (bits_of c.args.parts.high)) c.requires.sizes.high in
    let bits : length (counted c.new-high.result) ≡ length (bits_of c.args.parts.high) = ap length c.new-high.ensures in
    let rows : c.first_not_rising.new.steps ≤ c.rank1-ones.new.steps + length (bits_of c.args.parts.high) + 2 * n = omega (arith, bits, c.requires.sizes.lows, c.first_not_rising.ensures.cost) in
    omega (arith, all, c.check_counts.ensures.cost, c.rank1-ones.ensures.cost, rows, c.check_counts-2.ensures.cost, c.requires.sizes.marks)

pub returns-then-marked-count-clause-checked : goal.returns-then-marked-count-clause-checked
returns-then-marked-count-clause-checked g c =
    let p = c.args.parts in
    let high = bits_of p.high in
    let marks = bits_of p.marks in
    let high_counts = fields_of p.high_counts in
    let mark_counts = fields_of p.mark_counts in
    let lows = fields_of p.lows in
    let places = fields_of p.places in
    let back = fields_of p.back in
    let n = length places in
    mark_ones_first (names_of p) high_counts mark_counts c.rank1-marked.result (wrong_none high high_counts c.in_default.ensures.checked)
    (ones_none high n c.rank1-ones.result (ones_is high (counted c.new-high.result) c.len.result c.rank1-ones.result c.new-high.ensures c.len.ensures c.rank1-ones.ensures.rank) (c.if-ones-count.false ∙ c.count.ensures))
    ((rising_is high (counted c.new-high.result) lows (width_of p.lows) n (length lows) c.first_not_rising.result c.new-high.ensures c.requires.sizes.lows c.first_not_rising.ensures.place) ∙ c.in_default-first_not_rising.is)
    (wrong_none marks mark_counts c.in_default-check_counts.ensures.checked)
    (ones_other marks (length back) c.rank1-marked.result (ones_is marks (counted c.new-marks.result) c.len-2.result c.rank1-marked.result c.new-marks.ensures c.len-2.ensures c.rank1-marked.ensures.rank) (λ e. c.if-marked-count.true (e ∙ sym c.count-2.ensures)))

pub returns-then-marked-count-clause-cost : goal.returns-then-marked-count-clause-cost
returns-then-marked-count-clause-cost g c =
    let n = length (fields_of c.args.parts.places) in
    let all = all_few n (length (bits_of c.args.parts.high)) c.requires.sizes.high in
    let bits : length (counted c.new-high.result) ≡ length (bits_of c.args.parts.high) = ap length c.new-high.ensures in
    let rows : c.first_not_rising.new.steps ≤ c.rank1-ones.new.steps + length (bits_of c.args.parts.high) + 2 * n = omega (arith, bits, c.requires.sizes.lows, c.first_not_rising.ensures.cost) in
    omega (arith, all, c.check_counts.ensures.cost, c.rank1-ones.ensures.cost, rows, c.check_counts-2.ensures.cost, c.requires.sizes.marks, c.rank1-marked.ensures.cost)

pub returns-in-Some-first_not_found-clause-checked : goal.returns-in-Some-first_not_found-clause-checked
returns-in-Some-first_not_found-clause-checked g c =
    let p = c.args.parts in
    let high = bits_of p.high in
    let marks = bits_of p.marks in
    let high_counts = fields_of p.high_counts in
    let mark_counts = fields_of p.mark_counts in
    let lows = fields_of p.lows in
    let places = fields_of p.places in
    let back = fields_of p.back in
    let n = length places in
    order_first (names_of p) high_counts mark_counts c.in-Some-first_not_found.number (wrong_none high high_counts c.in_default.ensures.checked)
    (ones_none high n c.rank1-ones.result (ones_is high (counted c.new-high.result) c.len.result c.rank1-ones.result c.new-high.ensures c.len.ensures c.rank1-ones.ensures.rank) (c.if-ones-count.false ∙ c.count.ensures))
    ((rising_is high (counted c.new-high.result) lows (width_of p.lows) n (length lows) c.first_not_rising.result c.new-high.ensures c.requires.sizes.lows c.first_not_rising.ensures.place) ∙ c.in_default-first_not_rising.is)
    (wrong_none marks mark_counts c.in_default-check_counts.ensures.checked)
    (ones_none marks (length back) c.rank1-marked.result (ones_is marks (counted c.new-marks.result) c.len-2.result c.rank1-marked.result c.new-marks.ensures c.len-2.ensures c.rank1-marked.ensures.rank) (c.if-marked-count.false ∙ c.count-2.ensures))
    ((ordered_is places marks (counted c.new-marks.result) back n c.first_not_found.result c.new-marks.ensures c.first_not_found.ensures.number) ∙ c.in-Some-first_not_found.is)

pub returns-in-Some-first_not_found-clause-cost : goal.returns-in-Some-first_not_found-clause-cost
returns-in-Some-first_not_found-clause-cost g c =
    let n = length (fields_of c.args.parts.places) in
    let all = all_few n (length (bits_of c.args.parts.high)) c.requires.sizes.high in
    let bits : length (counted c.new-high.result) ≡ length (bits_of c.args.parts.high) = ap length c.new-high.ensures in
    let rows : c.first_not_rising.new.steps ≤ c.rank1-ones.new.steps + length (bits_of c.args.parts.high) + 2 * n = omega (arith, bits, c.requires.sizes.lows, c.first_not_rising.ensures.cost) in
    omega (arith, all, c.check_counts.ensures.cost, c.rank1-ones.ensures.cost, rows, c.check_counts-2.ensures.cost, c.requires.sizes.marks, c.rank1-marked.ensures.cost, c.first_not_found.ensures.cost)

pub returns-clause-checked : goal.returns-clause-checked
returns-clause-checked g c =
    let p = c.args.parts in
    let high = bits_of p.high in
    let marks = bits_of p.marks in
    let high_counts = fields_of p.high_counts in
    let mark_counts = fields_of p.mark_counts in
    let lows = fields_of p.lows in
    let places = fields_of p.places in
    let back = fields_of p.back in
    let n = length places in
    no_fault (names_of p) high_counts mark_counts (wrong_none high high_counts c.in_default.ensures.checked)
    (ones_none high n c.rank1-ones.result (ones_is high (counted c.new-high.result) c.len.result c.rank1-ones.result c.new-high.ensures c.len.ensures c.rank1-ones.ensures.rank) (c.if-ones-count.false ∙ c.count.ensures))
    ((rising_is high (counted c.new-high.result) lows (width_of p.lows) n (length lows) c.first_not_rising.result c.new-high.ensures c.requires.sizes.lows c.first_not_rising.ensures.place) ∙ c.in_default-first_not_rising.is)
    (wrong_none marks mark_counts c.in_default-check_counts.ensures.checked)
    (ones_none marks (length back) c.rank1-marked.result (ones_is marks (counted c.new-marks.result) c.len-2.result c.rank1-marked.result c.new-marks.ensures c.len-2.ensures c.rank1-marked.ensures.rank) (c.if-marked-count.false ∙ c.count-2.ensures))
    ((ordered_is places marks (counted c.new-marks.result) back n c.first_not_found.result c.new-marks.ensures c.first_not_found.ensures.number) ∙ c.in_default-first_not_found.is)

pub returns-clause-cost : goal.returns-clause-cost
returns-clause-cost g c =
    let n = length (fields_of c.args.parts.places) in
    let all = all_few n (length (bits_of c.args.parts.high)) c.requires.sizes.high in
    let bits : length (counted c.new-high.result) ≡ length (bits_of c.args.parts.high) = ap length c.new-high.ensures in
    let rows : c.first_not_rising.new.steps ≤ c.rank1-ones.new.steps + length (bits_of c.args.parts.high) + 2 * n = omega (arith, bits, c.requires.sizes.lows, c.first_not_rising.ensures.cost) in
    omega (arith, all, c.check_counts.ensures.cost, c.rank1-ones.ensures.cost, rows, c.check_counts-2.ensures.cost, c.requires.sizes.marks, c.rank1-marked.ensures.cost, c.first_not_found.ensures.cost)
