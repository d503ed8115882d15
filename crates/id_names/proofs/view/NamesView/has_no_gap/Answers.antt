use Rattle.std.proofs.Common.{◌+◌, ◌-◌, length, refl, sym, ◌∙◌, arith}
use Rattle.std.proofs.lemmas.Bool.{eqb-true, eq-eqb}
use Rattle.bit_words.proofs.DigitLaws.{digits-pow}
use Rattle.rank_select.specs.Counts.{counts_of}
use Rattle.rank_select.specs.RankView.{counted}
use Rattle.id_names.specs.Views.{ids_of, names_in}
use Rattle.id_names.proofs.Gapless.{greatest_tells}
use Rattle.id_names.proofs.NameLaws.{length-ids}
use Rattle.id_names.proofs.view.NamesView.has_no_gap.Goals as goal

pub returns-then-count-eq0-clause-gapless : goal.returns-then-count-eq0-clause-gapless
returns-then-count-eq0-clause-gapless g c =
    let l = length-ids (names_in c.args.self.now) in
    (λ t j h. absurd (omega (arith, h, l, c.if-count-eq0.true, c.count-count.ensures.count)), λ none. refl)

pub returns-clause-gapless : goal.returns-clause-gapless
returns-clause-gapless g c =
    let v = c.args.self.now in
    let p = names_in v in
    let n = c.count-count.result in
    let l = length-ids p in
    let at = c.id_at-greatest.ensures.id in (
      λ t. greatest_tells p (counts_of (counted v.ids.high)) (counts_of (counted v.inverse.marks)) v.right n (omega (arith, l, c.count-count.ensures.count)) (omega arith) (sym at ∙ eqb-true c.id_at-greatest.result n t),
      λ none. eq-eqb c.id_at-greatest.result n (at ∙ none (n - 1) (omega (arith, l, c.count-count.ensures.count)) ∙ omega arith),
    )

pub returns-clause-few_words : goal.returns-clause-few_words
returns-clause-few_words g c =
    let few = digits-pow (length (ids_of c.args.self.now) + 2) 25 (omega (arith, c.count-count.ensures.count, c.count-count.ensures.few)) in
    omega (arith, few, c.id_at-greatest.ensures.cost)
