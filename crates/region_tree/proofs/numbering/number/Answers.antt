use Rattle.std.proofs.Common.{◌≡◌, ◌<◌, ◌≤◌, ◌∙◌, ap, subst, sym, length, map, arith, slice_index, List, ℕ, Bool, true, Some}
use Rattle.std.specs.Prelude.{slice_get}
use Rattle.std.specs.List.Sorted.{IsNonDecreasing}
use Rattle.plane_model.specs.Sets.{has, is_distinct}
use Rattle.region_tree.specs.MemberPlaces.{AreNumbersOf, AreMemberPlaces}
use Rattle.region_tree.specs.Siblings.{places_in, slots_of}
use Rattle.region_tree.specs.Walked.{AreForest, order_in, bits_in}
use Rattle.region_tree.proofs.Renamed.{bits-renamed, ids-renamed, slots_within}
use Rattle.region_tree.proofs.Readied.{order, forest_slots, ids_order, order_long, order_within, order_apart, row_there, members-are}
use Rattle.region_tree.proofs.numbering.number.Goals as goal

pub link-requires-clause-within : goal.link-requires-clause-within
link-requires-clause-within c =
    let r = c.requires.ready in
    let read = c.deref-2.ensures.value ∙ c.in_ok-slots.ensures ∙ ap slots_of c.deref.ensures.value in
    λ k l. subst (λ xs. slice_index xs k ≤ length xs) (sym read) (slots_within _ _ _ r.1.regions k (subst (λ xs. k < length xs) read l))

pub walk-requires-clause-within : goal.walk-requires-clause-within
walk-requires-clause-within c =
    let r = c.requires.ready in
    let read = c.deref-3.ensures.value ∙ c.in_ok-slots.ensures ∙ ap slots_of c.deref.ensures.value in
    λ k l. subst (λ xs. slice_index xs k ≤ length xs) (sym read) (slots_within _ _ _ r.1.regions k (subst (λ xs. k < length xs) read l))

pub walk-requires-clause-forest : goal.walk-requires-clause-forest
walk-requires-clause-forest c =
    let r = c.requires.ready in
    let read = c.deref-3.ensures.value ∙ c.in_ok-slots.ensures ∙ ap slots_of c.deref.ensures.value in
    subst AreForest (sym read) (forest_slots _ _ _ _ r.1)

abbrev order_of : List ℕ → List ℕ
order_of slots = order_in slots (places_in slots (length slots))

abbrev bits_of : List ℕ → List Bool
bits_of slots = bits_in slots (places_in slots (length slots))

pub ids_of-requires : goal.ids_of-requires
ids_of-requires c =
    let r = c.requires.ready in
    let read = c.deref-3.ensures.value ∙ c.in_ok-slots.ensures ∙ ap slots_of c.deref.ensures.value in
    let walked = c.deref-5.ensures.value ∙ c.in_ok-bits.ensures.order ∙ ap order_of read in
    λ x l. subst (λ xs. slice_index c.deref-5.result.now x < length xs) (sym c.deref-4.ensures.value) (subst (λ xs. slice_index xs x < length c.args.hierarchy.now.ids.items) (sym walked) (order_within _ _ _ _ r.1 x (subst (λ xs. x < length xs) walked l)))

pub numbers-requires-clause-few : goal.numbers-requires-clause-few
numbers-requires-clause-few c =
    let r = c.requires.ready in
    let read = c.deref-3.ensures.value ∙ c.in_ok-slots.ensures ∙ ap slots_of c.deref.ensures.value in
    let walked = c.deref-6.ensures.value ∙ c.in_ok-bits.ensures.order ∙ ap order_of read in
    let long = ap length walked ∙ order_long _ _ _ _ r.1 in
    omega (arith, long, c.requires.few)

pub numbers-requires-clause-within : goal.numbers-requires-clause-within
numbers-requires-clause-within c =
    let r = c.requires.ready in
    let read = c.deref-3.ensures.value ∙ c.in_ok-slots.ensures ∙ ap slots_of c.deref.ensures.value in
    let walked = c.deref-6.ensures.value ∙ c.in_ok-bits.ensures.order ∙ ap order_of read in
    λ x l. subst (λ xs. slice_index xs x < length xs) (sym walked) (let w = order_within _ _ _ _ r.1 x (subst (λ xs. x < length xs) walked l) in let long = order_long _ _ _ _ r.1 in omega (arith, w, long))

pub numbers-requires-clause-apart : goal.numbers-requires-clause-apart
numbers-requires-clause-apart c =
    let r = c.requires.ready in
    let read = c.deref-3.ensures.value ∙ c.in_ok-slots.ensures ∙ ap slots_of c.deref.ensures.value in
    let walked = c.deref-6.ensures.value ∙ c.in_ok-bits.ensures.order ∙ ap order_of read in
    subst (λ xs. is_distinct xs ≡ true) (sym walked) (order_apart _ _ _ _ r.1)

pub member_places-requires-clause-rising : goal.member_places-requires-clause-rising
member_places-requires-clause-rising c = subst IsNonDecreasing (sym c.deref-7.ensures.value) c.requires.rising

pub member_places-requires-clause-numbers : goal.member_places-requires-clause-numbers
member_places-requires-clause-numbers c =
    let r = c.requires.ready in
    let read = c.deref-3.ensures.value ∙ c.in_ok-slots.ensures ∙ ap slots_of c.deref.ensures.value in
    let walked = c.deref-6.ensures.value ∙ c.in_ok-bits.ensures.order ∙ ap order_of read in
    let long = ap length walked ∙ order_long _ _ _ _ r.1 in
    ap length c.deref-8.ensures.value ∙ c.in_ok-numbers.ensures.many ∙ long ∙ sym (ap length c.deref-7.ensures.value)

pub member_places-requires-clause-there : goal.member_places-requires-clause-there
member_places-requires-clause-there c =
    let r = c.requires.ready in
    λ k row h. subst (λ xs. has xs row.region ≡ true) (sym c.deref-7.ensures.value) (row_there _ _ _ _ r.1 c.in_ok-rows.rows.items c.in_ok-rows.ensures.same c.in_ok-rows.ensures.rising k row (subst (λ xs. slice_get xs k ≡ Some row) c.deref-9.ensures.value h))

pub returns-clause-bits : goal.returns-clause-bits
returns-clause-bits c =
    let read = c.deref-3.ensures.value ∙ c.in_ok-slots.ensures ∙ ap slots_of c.deref.ensures.value in
    λ m ready. c.in_ok-bits.ensures.bits ∙ ap bits_of read ∙ sym (bits-renamed _ _ _ ready.regions)

pub returns-clause-ids : goal.returns-clause-ids
returns-clause-ids c =
    let read = c.deref-3.ensures.value ∙ c.in_ok-slots.ensures ∙ ap slots_of c.deref.ensures.value in
    let walked = c.deref-5.ensures.value ∙ c.in_ok-bits.ensures.order ∙ ap order_of read in
    λ m ready. c.in_ok-ids.ensures ∙ ap (λ xs. map (slice_index xs) c.deref-5.result.now) c.deref-4.ensures.value ∙ ap (map (slice_index c.args.hierarchy.now.ids.items)) walked ∙ sym (ids-renamed _ _ _ ready.regions)

pub returns-clause-members : goal.returns-clause-members
returns-clause-members c =
    let read = c.deref-3.ensures.value ∙ c.in_ok-slots.ensures ∙ ap slots_of c.deref.ensures.value in
    let walked = c.deref-6.ensures.value ∙ c.in_ok-bits.ensures.order ∙ ap order_of read in
    let numbers = c.in_ok-numbers.numbers.items in
    let rows = c.in_ok-rows.rows.items in
    let places = c.in_ok-members.members.items in
    let by_ids = subst (λ xs. AreMemberPlaces xs c.deref-8.result.now c.deref-9.result.now places) c.deref-7.ensures.value c.in_ok-members.ensures in
    let by_numbers = subst (λ xs. AreMemberPlaces c.args.hierarchy.now.ids.items xs c.deref-9.result.now places) c.deref-8.ensures.value by_ids in
    let by_rows = subst (λ xs. AreMemberPlaces c.args.hierarchy.now.ids.items numbers xs places) c.deref-9.ensures.value by_numbers in
    let are = subst (λ xs. AreNumbersOf xs numbers) walked c.in_ok-numbers.ensures in
    λ m ready. members-are m _ _ _ ready rows c.in_ok-rows.ensures.same c.in_ok-rows.ensures.rising numbers are places by_rows
