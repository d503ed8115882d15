use Rattle.std.proofs.Common.{◌<◌, ◌^◌, ℕ, List, length, map, ap, sym, subst, ◌∙◌, arith}
use Rattle.std.specs.Prelude.{filter_map, is_some}
use Rattle.std.specs.List.{All}
use Rattle.bit_words.specs.Packed.{PackedList}
use Rattle.id_names.proofs.Pointers.{width_narrow}
use Rattle.id_names.proofs.ToAll.{all_pointers, numbers_fit}
use Rattle.id_names.proofs.place_words.all_marked.Goals as goal

pub pointers_to_all-requires-clause-narrow : goal.pointers_to_all-requires-clause-narrow
pointers_to_all-requires-clause-narrow c = omega (arith, c.requires.width, width_narrow (length c.args.places.now) c.requires.few)

pub pointers_to_all-requires-clause-fit : goal.pointers_to_all-requires-clause-fit
pointers_to_all-requires-clause-fit c =
    subst (λ n. All (λ x. x < 2 ^ n) c.args.numbers.now) (sym c.requires.width) (numbers_fit c.args.places.now c.args.numbers.now c.requires.places c.requires.numbers)

pub returns-clause-marks : goal.returns-clause-marks
returns-clause-marks c = c.in_ok-marks.ensures ∙ ap (map is_some) (all_pointers c.args.places.now c.args.numbers.now c.requires.places c.requires.numbers)

pub returns-clause-back : goal.returns-clause-back
returns-clause-back c =
    let made : List ℕ → PackedList = λ items. record { width = c.args.width; items = items } in
    c.in_ok-back.ensures ∙ ap made (ap (filter_map (λ pointer. pointer)) (all_pointers c.args.places.now c.args.numbers.now c.requires.places c.requires.numbers))
