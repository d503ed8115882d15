use Rattle.std.proofs.Common.{◌≡◌, ◌<◌, ◌^◌, length, ap, sym, subst, ◌∙◌, arith}
use Rattle.std.specs.Prelude.{filter_map}
use Rattle.std.specs.List.{All}
use Rattle.id_names.specs.Cycles.{marks_of, back_pointers}
use Rattle.id_names.specs.Making.{place_width}
use Rattle.id_names.proofs.Pointers.{width_narrow, pointers_within, few_pointers, length-marks}
use Rattle.id_names.proofs.place_words.marked_apart.Goals as goal

pub mark_bits-requires : goal.mark_bits-requires
mark_bits-requires c =
    let e : length c.deref.result.now ≡ length (marks_of c.args.places.now c.args.stride) = ap length (c.deref.ensures.value ∙ c.in-Ok.ensures) in
    omega (arith, length-marks c.args.places.now c.requires.places c.args.stride c.requires.some, c.requires.few)

pub packed-requires-clause-few : goal.packed-requires-clause-few
packed-requires-clause-few c =
    let s = c.args.stride in
    let e : c.deref-3.result.now ≡ back_pointers c.args.places.now s = c.deref-3.ensures.value ∙ c.in-Ok-some_pointers.ensures ∙ ap (filter_map (λ o. o)) (c.deref-2.ensures.value ∙ c.in-Ok.ensures) in
    let f = ap length e in
    omega (arith, few_pointers c.args.places.now c.requires.places s c.requires.some, c.requires.few)

pub packed-requires-clause-some : goal.packed-requires-clause-some
packed-requires-clause-some c = omega (arith, c.requires.width)

pub packed-requires-clause-narrow : goal.packed-requires-clause-narrow
packed-requires-clause-narrow c = omega (arith, c.requires.width, width_narrow (length c.args.places.now) c.requires.few)

pub packed-requires-clause-fit : goal.packed-requires-clause-fit
packed-requires-clause-fit c =
    let s = c.args.stride in
    let e : c.deref-3.result.now ≡ back_pointers c.args.places.now s = c.deref-3.ensures.value ∙ c.in-Ok-some_pointers.ensures ∙ ap (filter_map (λ o. o)) (c.deref-2.ensures.value ∙ c.in-Ok.ensures) in
    subst (λ n. All (λ x. x < 2 ^ n) c.deref-3.result.now) (sym c.requires.width)
    (subst (All (λ x. x < 2 ^ place_width (length c.args.places.now))) (sym e) (pointers_within c.args.places.now c.requires.places s c.requires.some))
