use Rattle.std.proofs.Common.{◌≡◌, ℕ, true, eqb, length, refl, ap, sym, ◌∙◌, subst, arith, Option, Some}
use Rattle.std.specs.Prelude.{not}
use Rattle.std.specs.Option.{option_eq}
use Rattle.std.proofs.lemmas.Bool.{eq-eqb}
use Rattle.bit_words.specs.PackedView.{fields_of}
use Rattle.id_names.specs.Faults.{is_ordered}
use Rattle.id_names.specs.PartViews.{number_in}
use Rattle.id_names.proofs.FaultLaws.{failing_none, failing_some, not_ordered}
use Rattle.id_names.proofs.checking.first_by_walks.Goals as goal
use Rattle.id_names.proofs.checking.first_by_walks.Goals.{then-place-count-via-then-place-count, then-place-count-via-else-place-count+then-ne}

found_there : (o : Option ℕ) (k : ℕ) → o ≡ Some k → true ≡ not (option_eq eqb o (Some k)) → ⊥
found_there o k e h =
    let f : true ≡ not (option_eq eqb (Some k) (Some k)) = subst (λ o. true ≡ not (option_eq eqb o (Some k))) e h in
    let g : true ≡ not true = subst (λ b. true ≡ not b) (eq-eqb k k refl) f in
    cc

pub returns-then-place-count-clause-number : goal.returns-then-place-count-clause-number
returns-then-place-count-clause-number g c =
    let v = c.args.inverse in
    let places = fields_of v.places in
    let k = c.loop-number.number in
    sym (failing_some (is_ordered places (number_in v)) (length places) k (omega arith) c.loop-number.invariant.found (not_ordered places (number_in v) k (λ n.
    elim c.then-place-count.branch [
      | then-place-count-via-then-place-count w ↦ omega (arith, n.within, c.field-place.ensures.field, w.if-place-count.true)
      | then-place-count-via-else-place-count+then-ne w ↦
          let at : w.number.result ≡ Some k = w.number.ensures.number ∙ ap (number_in v) c.field-place.ensures.field ∙ n.found in
          found_there w.number.result k at w.if-ne.ensures
    ])))

pub returns-clause-number : goal.returns-clause-number
returns-clause-number g c =
    let v = c.args.inverse in
    sym (failing_none (is_ordered (fields_of v.places) (number_in v)) (length (fields_of v.places)) (λ k h. c.loop-number.invariant.found k (omega arith)))
