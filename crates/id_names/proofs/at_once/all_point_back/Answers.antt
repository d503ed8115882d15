use Rattle.std.specs.Option.{is_some}
use Rattle.std.proofs.Common.{◌≡◌, ◌<◌, ◌∙◌, length, true, inl, inr, sym, subst, arith}
use Rattle.std.proofs.lemmas.Bool.{cases_lt}
use Rattle.bit_words.specs.PackedView.{fields_of}
use Rattle.bit_words.proofs.Ranks.{rank-zero}
use Rattle.rank_select.specs.RankView.{counted}
use Rattle.id_names.specs.PartViews.{number_in}
use Rattle.id_names.proofs.PointBack.{found_at_once}
use Rattle.id_names.proofs.at_once.all_point_back.Goals as goal

pub loop-place-init : goal.loop-place-init
loop-place-init g c = record { marks = sym (rank-zero true (counted c.args.inverse.marks)); found = λ place h. absurd (omega arith); grows = omega arith; steps = omega arith }

pub loop-place-preserved : goal.loop-place-preserved
loop-place-preserved g c =
    let v = c.args.inverse in
    let l = c.loop-place in
    let within : l.place < length (fields_of v.places) = omega (arith, c.loop-place-test.true, c.count-count.ensures) in
    let there : c.pointed-found.result.number < length (fields_of v.places) = omega (arith, c.if-found-count.false, c.count-count.ensures) in
    let now : is_some (number_in v l.place) ≡ true = found_at_once (fields_of v.places) (counted v.marks) (fields_of v.back) l.place c.pointed-found.result.number within c.pointed-found.ensures.number there (sym c.field.ensures.field ∙ c.if-field-place.false) in
    record {
      marks = c.pointed-found.ensures.marks;
      found = λ place h. elim (cases_lt place l.place) [
        | inl less ↦ l.invariant.found place less
        | inr last ↦ (let e : l.place ≡ place = omega arith in subst (λ p. is_some (number_in v p) ≡ true) e now)
      ];
      grows = omega (arith, l.invariant.grows, c.pointed-found.ensures.grows, c.field.ensures.some_steps);
      steps = omega (arith, l.invariant.steps, c.pointed-found.ensures.cost, c.field.ensures.few_steps);
    }
