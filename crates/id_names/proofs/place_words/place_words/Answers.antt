use Rattle.std.proofs.Common.{◌≡◌, ◌<◌, ◌≤◌, ◌^◌, ℕ, length, ap, sym, subst, arith, max}
use Rattle.std.specs.List.{All}
use Rattle.bit_words.specs.Digits.{digits}
use Rattle.bit_words.specs.Packed.{PackedList}
use Rattle.id_names.specs.Making.{place_width}
use Rattle.id_names.proofs.Pointers.{spacing_some, width_narrow, places_fit, few_pointers, length-marked}
use Rattle.id_names.proofs.place_words.place_words.Goals as goal

width_is : (n d w : ℕ) → d ≡ digits n → w ≡ max d 1 → w ≡ place_width n
width_is n d w e f = omega arith

pub marked_numbers-requires-clause-some : goal.marked_numbers-requires-clause-some
marked_numbers-requires-clause-some c = omega (arith, spacing_some (length c.args.places.now), c.spacing-stride.ensures)

pub marked_numbers-requires-clause-width : goal.marked_numbers-requires-clause-width
marked_numbers-requires-clause-width c = width_is (length c.args.places.now) c.binary_digits.result c.max-width.result c.binary_digits.ensures.count c.max-width.ensures

pub packed-requires-clause-narrow : goal.packed-requires-clause-narrow
packed-requires-clause-narrow c = omega (arith, width_is (length c.args.places.now) c.binary_digits.result c.max-width.result c.binary_digits.ensures.count c.max-width.ensures, width_narrow (length c.args.places.now) c.requires.few)

pub packed-requires-clause-fit : goal.packed-requires-clause-fit
packed-requires-clause-fit c =
    let w = width_is (length c.args.places.now) c.binary_digits.result c.max-width.result c.binary_digits.ensures.count c.max-width.ensures in
    subst (λ n. All (λ x. x < 2 ^ n) c.args.places.now) (sym w) (places_fit c.args.places.now c.requires.places)

pub make_counts-requires : goal.make_counts-requires
make_counts-requires c =
    let s = c.spacing-stride.result in
    let some : 1 ≤ s = omega (arith, spacing_some (length c.args.places.now), c.spacing-stride.ensures) in
    let e = ap length c.in_ok-marks.ensures.marks in
    omega (arith, e, length-marked c.args.places.now c.requires.places s some, c.requires.few)

pub overflow_cast-marked : goal.overflow_cast-marked
overflow_cast-marked c =
    let s = c.spacing-stride.result in
    let some : 1 ≤ s = omega (arith, spacing_some (length c.args.places.now), c.spacing-stride.ensures) in
    let e = ap (λ (l : PackedList). length l.items) c.in_ok-marks.ensures.back in
    omega (arith, e, few_pointers c.args.places.now c.requires.places s some, c.requires.few, c.count-marked.ensures)
