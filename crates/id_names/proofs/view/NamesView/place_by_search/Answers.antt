use Rattle.std.proofs.Common.{◌≡◌, ◌+◌, ◌-◌, ◌*◌, ◌%◌, ◌^◌, ◌<◌, length, ap, sym, ◌∙◌, arith, inl, inr}
use Rattle.std.proofs.lemmas.Bool.{cases_lt}
use Rattle.bit_words.specs.Digits.{digits}
use Rattle.bit_words.specs.PackedView.{fields_of}
use Rattle.bit_words.proofs.DigitLaws.{digits-mono}
use Rattle.rank_select.specs.Counts.{counts_of}
use Rattle.rank_select.specs.RankView.{counted}
use Rattle.id_names.specs.PartViews.{id_in}
use Rattle.id_names.specs.Views.{ids_of, names_in}
use Rattle.id_names.proofs.DigitBounds.{less_left}
use Rattle.id_names.proofs.NameLaws.{length-ids}
use Rattle.id_names.proofs.NumberLaws.{less_is, equal_is, greater_is}
use Rattle.id_names.proofs.PlaceLaws.{high_small, wanted_is, below_bucket, above_bucket, before_low, after_low, at_low, not_earlier, not_later}
use Rattle.id_names.proofs.view.NamesView.place_by_search.Goals as goal

pub span-span-requires : goal.span-span-requires
span-span-requires g c = high_small c.args.id c.width-low.result (omega (arith, c.args.self.now.ids.lows.some, c.width-low.ensures)) (omega arith)

pub overflow_shl-wanted : goal.overflow_shl-wanted
overflow_shl-wanted g c = omega (arith, c.args.self.now.ids.narrow, c.width-low.ensures)

pub loop-span-init : goal.loop-span-init
loop-span-init g c =
    let v = c.args.self.now.ids in
    let s = c.span-span.result in
    let w = c.span-span.ensures.places in
    let n = length (fields_of v.lows) in
    record {
      order = w.order;
      within = w.count;
      bucket = w.within;
      below = λ k h. below_bucket v c.args.id c.width-low.result c.width-low.ensures k (omega (arith, h, w.order, w.count)) (w.below k h);
      above = λ k h l. above_bucket v c.args.id c.width-low.result c.width-low.ensures k l (w.above k h l);
      grows = omega arith;
      steps = omega (arith, digits-mono (s.to - s.from) n (omega (arith, w.order, w.count)));
    }

pub loop-span-preserved-in-Less : goal.loop-span-preserved-in-Less
loop-span-preserved-in-Less g c =
    let v = c.args.self.now in
    let s = c.loop-span.span in
    let id = c.args.id in
    let low = c.width-low.result in
    let j = c.place-place.result in
    let at = c.place-place.ensures in
    let more = c.behind-span.ensures in
    let within : j < length (fields_of v.ids.lows) = omega (arith, at.to, c.loop-span.invariant.within) in
    let wanted = wanted_is id low (omega (arith, v.ids.narrow, c.width-low.ensures)) in
    let less : c.field-number.result < id % 2 ^ low = omega (arith, wanted, less_is c.field-number.result (id % (1 * 2 ^ low % 2 ^ 64)) (sym c.cmp.ensures ∙ c.in-Less.is)) in
    let here : id_in v.ids j < id = before_low v.ids id low c.width-low.ensures j within (c.loop-span.invariant.bucket j at.from at.to) (omega (arith, less, c.field-number.ensures.field)) in
    record {
      order = omega (arith, at.to, more.from, more.to);
      within = omega (arith, c.loop-span.invariant.within, more.to);
      bucket = λ k h l. c.loop-span.invariant.bucket k (omega (arith, h, at.from, more.from)) (omega (arith, l, more.to));
      below = λ k l. not_earlier (names_in v) (counts_of (counted v.ids.high)) (counts_of (counted v.inverse.marks)) v.right id j here (omega (arith, within, v.count)) k (omega (arith, l, more.from));
      above = λ k h l. c.loop-span.invariant.above k (omega (arith, h, more.to)) l;
      grows = omega (arith, c.loop-span.invariant.grows, c.field-number.ensures.some_steps);
      steps = omega (arith, c.loop-span.invariant.steps, c.field-number.ensures.few_steps, more.probes, less_left s.from s.to j s.probes (c.behind-span.result.to - c.behind-span.result.from) at.from at.to at.middle (inr (omega (arith, more.from, more.to))));
    }

pub returns-in-Equal-clause-place : goal.returns-in-Equal-clause-place
returns-in-Equal-clause-place g c =
    let v = c.args.self.now in
    let id = c.args.id in
    let low = c.width-low.result in
    let j = c.place-place.result in
    let at = c.place-place.ensures in
    let within : j < length (fields_of v.ids.lows) = omega (arith, at.to, c.loop-span.invariant.within) in
    let wanted = wanted_is id low (omega (arith, v.ids.narrow, c.width-low.ensures)) in
    let same : c.field-number.result ≡ id % 2 ^ low = equal_is c.field-number.result (id % (1 * 2 ^ low % 2 ^ 64)) (sym c.cmp.ensures ∙ c.in-Equal.is) ∙ wanted in
    (omega (arith, within, v.count, length-ids (names_in v)), at_low v.ids id low c.width-low.ensures j within (c.loop-span.invariant.bucket j at.from at.to) (sym c.field-number.ensures.field ∙ same))

pub returns-in-Equal-clause-cost : goal.returns-in-Equal-clause-cost
returns-in-Equal-clause-cost g c =
    let v = c.args.self.now in
    let n = length (fields_of v.ids.lows) in
    let e : digits (n + 2) ≡ digits (length (ids_of v) + 2) = ap (λ n. digits (n + 2)) (v.count ∙ sym (length-ids (names_in v))) in
    omega (arith, e, digits-mono n (n + 2) (omega arith), c.loop-span.invariant.steps, c.field-number.ensures.few_steps, c.span-span.ensures.cost)

pub loop-span-preserved : goal.loop-span-preserved
loop-span-preserved g c =
    let v = c.args.self.now in
    let s = c.loop-span.span in
    let id = c.args.id in
    let low = c.width-low.result in
    let j = c.place-place.result in
    let at = c.place-place.ensures in
    let more = c.before-span.ensures in
    let within : j < length (fields_of v.ids.lows) = omega (arith, at.to, c.loop-span.invariant.within) in
    let wanted = wanted_is id low (omega (arith, v.ids.narrow, c.width-low.ensures)) in
    let greater : id % 2 ^ low < c.field-number.result = omega (arith, wanted, greater_is c.field-number.result (id % (1 * 2 ^ low % 2 ^ 64)) (sym c.cmp.ensures ∙ c.in-Greater.is)) in
    let here : id < id_in v.ids j = after_low v.ids id low c.width-low.ensures j within (c.loop-span.invariant.bucket j at.from at.to) (omega (arith, greater, c.field-number.ensures.field)) in
    record {
      order = omega (arith, at.from, more.from, more.to);
      within = omega (arith, within, more.to);
      bucket = λ k h l. c.loop-span.invariant.bucket k (omega (arith, h, more.from)) (omega (arith, l, at.to, more.to));
      below = λ k l. c.loop-span.invariant.below k (omega (arith, l, more.from));
      above = λ k h l. not_later (names_in v) (counts_of (counted v.ids.high)) (counts_of (counted v.inverse.marks)) v.right id j here k (omega (arith, h, more.to)) (omega (arith, l, v.count));
      grows = omega (arith, c.loop-span.invariant.grows, c.field-number.ensures.some_steps);
      steps = omega (arith, c.loop-span.invariant.steps, c.field-number.ensures.few_steps, more.probes, less_left s.from s.to j s.probes (c.before-span.result.to - c.before-span.result.from) at.from at.to at.middle (inl (omega (arith, more.from, more.to))));
    }

pub returns-clause-place : goal.returns-clause-place
returns-clause-place g c = λ k h e.
    let v = c.args.self.now in
    elim (cases_lt k c.loop-span.span.from) [
      | inl l ↦ omega (arith, c.loop-span.invariant.below k l, e)
      | inr l ↦ omega (arith, c.loop-span.invariant.above k (omega arith) (omega (arith, h, v.count, length-ids (names_in v))), e)
    ]

pub returns-clause-cost : goal.returns-clause-cost
returns-clause-cost g c =
    let v = c.args.self.now in
    let n = length (fields_of v.ids.lows) in
    let e : digits (n + 2) ≡ digits (length (ids_of v) + 2) = ap (λ n. digits (n + 2)) (v.count ∙ sym (length-ids (names_in v))) in
    omega (arith, e, digits-mono n (n + 2) (omega arith), c.loop-span.invariant.steps, c.span-span.ensures.cost)
