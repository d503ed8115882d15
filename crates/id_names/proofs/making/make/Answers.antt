use Rattle.std.proofs.Common.{◌≡◌, ℕ, List, length, ap, sym, subst, ◌∙◌, arith}
use Rattle.bit_words.specs.Bits.{HoldsBits}
use Rattle.rank_select.specs.Counts.{counts_of}
use Rattle.id_names.specs.Cycles.{AreInverse, IsPlacePermutation, marked, back_pointers}
use Rattle.id_names.specs.Making.{spacing, HoldsFields, place_width, places_of}
use Rattle.id_names.specs.Numbered.{entry_numbers}
use Rattle.id_names.proofs.MakingLaws.{ids_back, no_fault}
use Rattle.id_names.proofs.SortedIds.{are_rising, are_places, are_inverse, length-places_of}
use Rattle.id_names.proofs.making.make.Goals as goal

-- what holds of the places as they are made holds of the places of the ids
moved : (ids places : List ℕ) (P : List ℕ → ℕ → Type 0) → places ≡ places_of ids → length (places_of ids) ≡ length ids → P places (length places) → P (places_of ids) (length ids)
moved ids places P e many h = subst (P (places_of ids)) many (subst (λ xs. P xs (length xs)) e h)

pub place_words-requires-clause-few : goal.place_words-requires-clause-few
place_words-requires-clause-few c =
    let r = are_rising c.args.ids.now c.in-Ok.entries.items c.requires.names.distinct c.in-Ok.ensures in
    let e = ap length (c.deref-4.ensures.value ∙ c.in-Ok-places_by_number.ensures) ∙ length-places_of c.args.ids.now c.in-Ok.entries.items r in
    omega (arith, c.requires.few)

pub place_words-requires-clause-places : goal.place_words-requires-clause-places
place_words-requires-clause-places c =
    let r = are_rising c.args.ids.now c.in-Ok.entries.items c.requires.names.distinct c.in-Ok.ensures in
    subst IsPlacePermutation (sym (c.deref-4.ensures.value ∙ c.in-Ok-places_by_number.ensures)) (are_places c.args.ids.now c.in-Ok.entries.items r)

pub place_words-requires-clause-numbers : goal.place_words-requires-clause-numbers
place_words-requires-clause-numbers c =
    let r = are_rising c.args.ids.now c.in-Ok.entries.items c.requires.names.distinct c.in-Ok.ensures in
    subst (λ xs. AreInverse xs c.deref-5.result.now) (sym (c.deref-4.ensures.value ∙ c.in-Ok-places_by_number.ensures))
    (subst (AreInverse (places_of c.args.ids.now)) (sym (c.deref-5.ensures.value ∙ c.in-Ok-numbers_by_place.ensures ∙ ap entry_numbers c.deref-3.ensures.value)) (are_inverse c.args.ids.now c.in-Ok.entries.items r))

pub returns-clause-places : goal.returns-clause-places
returns-clause-places c =
    let r = are_rising c.args.ids.now c.in-Ok.entries.items c.requires.names.distinct c.in-Ok.ensures in
    moved c.args.ids.now c.deref-4.result.now (λ xs n. HoldsFields c.in_ok-inverse.inverse.places.items (place_width n) xs)
    (c.deref-4.ensures.value ∙ c.in-Ok-places_by_number.ensures) (length-places_of c.args.ids.now c.in-Ok.entries.items r) c.in_ok-inverse.ensures.places

pub returns-clause-marks : goal.returns-clause-marks
returns-clause-marks c =
    let r = are_rising c.args.ids.now c.in-Ok.entries.items c.requires.names.distinct c.in-Ok.ensures in
    moved c.args.ids.now c.deref-4.result.now (λ xs n. HoldsBits c.in_ok-inverse.inverse.marks.items (marked xs (spacing n)))
    (c.deref-4.ensures.value ∙ c.in-Ok-places_by_number.ensures) (length-places_of c.args.ids.now c.in-Ok.entries.items r) c.in_ok-inverse.ensures.marks

pub returns-clause-mark_counts : goal.returns-clause-mark_counts
returns-clause-mark_counts c =
    let r = are_rising c.args.ids.now c.in-Ok.entries.items c.requires.names.distinct c.in-Ok.ensures in
    moved c.args.ids.now c.deref-4.result.now (λ xs n. HoldsFields c.in_ok-inverse.inverse.mark_counts.items 32 (counts_of (marked xs (spacing n))))
    (c.deref-4.ensures.value ∙ c.in-Ok-places_by_number.ensures) (length-places_of c.args.ids.now c.in-Ok.entries.items r) c.in_ok-inverse.ensures.mark_counts

pub returns-clause-back : goal.returns-clause-back
returns-clause-back c =
    let r = are_rising c.args.ids.now c.in-Ok.entries.items c.requires.names.distinct c.in-Ok.ensures in
    moved c.args.ids.now c.deref-4.result.now (λ xs n. HoldsFields c.in_ok-inverse.inverse.back.items (place_width n) (back_pointers xs (spacing n)))
    (c.deref-4.ensures.value ∙ c.in-Ok-places_by_number.ensures) (length-places_of c.args.ids.now c.in-Ok.entries.items r) c.in_ok-inverse.ensures.back

pub returns-clause-marked : goal.returns-clause-marked
returns-clause-marked c =
    let r = are_rising c.args.ids.now c.in-Ok.entries.items c.requires.names.distinct c.in-Ok.ensures in
    moved c.args.ids.now c.deref-4.result.now (λ xs n. c.in_ok-inverse.inverse.marked ≡ length (back_pointers xs (spacing n)))
    (c.deref-4.ensures.value ∙ c.in-Ok-places_by_number.ensures) (length-places_of c.args.ids.now c.in-Ok.entries.items r) c.in_ok-inverse.ensures.marked

pub returns-clause-ids : goal.returns-clause-ids
returns-clause-ids c =
    let r = are_rising c.args.ids.now c.in-Ok.entries.items c.requires.names.distinct c.in-Ok.ensures in
    ids_back c.args.low c.args.ids.now c.requires.names c.in-Ok.entries.items r

pub returns-clause-right : goal.returns-clause-right
returns-clause-right c =
    let r = are_rising c.args.ids.now c.in-Ok.entries.items c.requires.names.distinct c.in-Ok.ensures in
    no_fault c.args.low c.args.ids.now c.requires.names c.in-Ok.entries.items r
