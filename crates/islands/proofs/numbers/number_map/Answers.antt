use Rattle.std.proofs.Common.{◌≡◌, ◌<◌, ◌*◌, ℕ, List, length, map, true, subst, sym, ap, ◌∙◌}
use Rattle.std.specs.Prelude.{slice_index}
use Rattle.plane_model.specs.Sets.{has}
use Rattle.plane_model.specs.Orders.{is_strictly_rising}
use Rattle.plane_model.specs.PlaneMap.{side}
use Rattle.rotation_check.specs.Darts.{map_of_rotation, signed_edge}
use Rattle.islands.proofs.FaceNumbers.{ids_rise}
use Rattle.islands.proofs.NumberedMaps.{side_there, numbered_map}
use Rattle.islands.proofs.numbers.number_map.Goals as goal

pub face_numbers-requires-clause-rising : goal.face_numbers-requires-clause-rising
face_numbers-requires-clause-rising c = subst (λ ids. is_strictly_rising ids ≡ true) (sym (c.deref.ensures.value ∙ c.in_ok-face_ids.ensures)) (ids_rise c.args.faces.now c.requires.faces.distinct)

pub face_numbers-requires-clause-there : goal.face_numbers-requires-clause-there
face_numbers-requires-clause-there c k h =
    let r = c.args.rotation.now in
    let darts : List ℕ = c.deref-2.result.now in
    let within = subst (λ (xs : List ℕ). (j : ℕ) → j < length xs → slice_index xs j < 2 * length r.edges) (sym c.deref-2.ensures.value) c.in_ok-rings.ensures.rings.within in
    subst (λ ids. has ids (side (map_of_rotation r) (signed_edge r.edges (slice_index darts k))) ≡ true) (sym (c.deref.ensures.value ∙ c.in_ok-face_ids.ensures))
    (side_there r c.args.faces.now c.requires.faces (slice_index darts k) (within k h))

pub returns : goal.returns
returns c =
    let r = c.args.rotation.now in
    let p = c.args.parts.now in
    let rings : List ℕ = c.in_ok-rings.field-0.rings.items in
    let ids : List ℕ = c.in_ok-face_ids.face_ids.items in
    let face_of : List ℕ = c.in_ok-face_of.face_of.items in
    let m = map_of_rotation r in
    let below = subst (λ (xs : List ℕ). (k : ℕ) → k < length face_of → slice_index face_of k < length xs) c.deref.ensures.value c.in_ok-face_of.ensures.below in
    let sides =
    subst (λ (xs : List ℕ). (k : ℕ) → k < length face_of → slice_index xs (slice_index face_of k) ≡ side m (signed_edge r.edges (slice_index rings k))) c.deref.ensures.value
    (subst (λ (xs : List ℕ). (k : ℕ) → k < length face_of → slice_index c.deref.result.now (slice_index face_of k) ≡ side m (signed_edge r.edges (slice_index xs k))) c.deref-2.ensures.value c.in_ok-face_of.ensures.sides) in
    numbered_map r c.args.faces.now p.components
    (record { rings = c.in_ok-rings.field-0.rings; components = c.in_ok-rings.field-0.components; face_ids = c.in_ok-face_ids.face_ids; face_of = c.in_ok-face_of.face_of; component_of = c.in_ok-component_of.component_of })
    c.in_ok-rings.ensures.rotation c.requires.labelled c.requires.faces c.requires.components c.in_ok-rings.ensures.rings c.in_ok-rings.ensures.components c.in_ok-face_ids.ensures (c.in_ok-face_of.ensures.many ∙ ap length c.deref-2.ensures.value) below sides
    (c.in_ok-component_of.ensures ∙ ap (map (slice_index p.components.of_darts)) c.deref-3.ensures.value)
