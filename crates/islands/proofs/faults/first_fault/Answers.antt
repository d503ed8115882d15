use Rattle.std.proofs.Common.{rules, ◌≡◌, ◌<◌, ◌∙◌, length, sym, subst}
use Rattle.std.specs.Prelude.{slice_index}
use Rattle.islands.proofs.MapFaults.{places_below, numbers_below, unplaced_told, bare_told, count_told, first_unplaced, then_bare, then_count, same_counts}
use Rattle.islands.specs.Placed.{map_with_faces}
use Rattle.islands.proofs.faults.first_fault.Goals as goal

pub at_places-requires : goal.at_places-requires
at_places-requires c = places_below c.args.rotation.now c.requires.numbered.0 c.args.parts.now.components c.args.numbered.now c.requires.numbered.1 c.args.starts.now c.deref.result.now c.deref.ensures.value c.requires.starts

pub marks-requires : goal.marks-requires
marks-requires c k h =
    subst (λ n. slice_index c.deref-2.result.now k < n) (sym c.components-count.ensures)
    (numbers_below c.args.rotation.now c.requires.numbered.0 c.args.parts.now.components c.args.numbered.now c.requires.numbered.1 c.args.starts.now c.deref.result.now c.in_ok-at_places.field-0.items c.deref-2.result.now c.deref.ensures.value c.in_ok-at_places.ensures c.deref-2.ensures.value c.requires.starts k h)

pub returns-then-is_some : goal.returns-then-is_some
returns-then-is_some c faces is outer =
    let unplaced =
    unplaced_told c.args.rotation.now faces c.args.parts.now.components c.args.numbered.now is c.args.starts.now c.deref.result.now c.in_ok-at_places.field-0.items c.deref-2.result.now c.deref-3.result.now c.in_ok-reached.reached.items c.deref-4.result.now c.first_unreached-unreached.result c.deref.ensures.value
    c.in_ok-at_places.ensures c.deref-2.ensures.value c.in_ok-reached.ensures.marked c.deref-3.ensures.value c.deref-4.ensures.value c.first_unreached-unreached.ensures c.requires.starts outer in
    first_unplaced (map_with_faces c.args.rotation.now faces) c.first_unreached-unreached.result unplaced (search rules)

pub returns-then-is_some-2 : goal.returns-then-is_some-2
returns-then-is_some-2 c faces is outer =
    let unplaced =
    unplaced_told c.args.rotation.now faces c.args.parts.now.components c.args.numbered.now is c.args.starts.now c.deref.result.now c.in_ok-at_places.field-0.items c.deref-2.result.now c.deref-3.result.now c.in_ok-reached.reached.items c.deref-4.result.now c.first_unreached-unreached.result c.deref.ensures.value
    c.in_ok-at_places.ensures c.deref-2.ensures.value c.in_ok-reached.ensures.marked c.deref-3.ensures.value c.deref-4.ensures.value c.first_unreached-unreached.ensures c.requires.starts outer in
    let bare = bare_told c.args.rotation.now faces c.args.parts.now.components c.args.numbered.now is c.deref-5.result.now c.deref-6.result.now c.in_ok-on_ring.on_ring.items c.deref-7.result.now c.first_bare_face-bare.result c.deref-5.ensures.value c.in_ok-on_ring.ensures.marked c.deref-6.ensures.value c.deref-7.ensures.value
    c.first_bare_face-bare.ensures in
    then_bare (map_with_faces c.args.rotation.now faces) c.first_unreached-unreached.result c.first_bare_face-bare.result unplaced (search rules) bare (search rules)

pub returns : goal.returns
returns c faces is outer =
    let n = c.args.numbered.now in
    let unplaced =
    unplaced_told c.args.rotation.now faces c.args.parts.now.components n is c.args.starts.now c.deref.result.now c.in_ok-at_places.field-0.items c.deref-2.result.now c.deref-3.result.now c.in_ok-reached.reached.items c.deref-4.result.now c.first_unreached-unreached.result c.deref.ensures.value
    c.in_ok-at_places.ensures c.deref-2.ensures.value c.in_ok-reached.ensures.marked c.deref-3.ensures.value c.deref-4.ensures.value c.first_unreached-unreached.ensures c.requires.starts outer in
    let bare = bare_told c.args.rotation.now faces c.args.parts.now.components n is c.deref-5.result.now c.deref-6.result.now c.in_ok-on_ring.on_ring.items c.deref-7.result.now c.first_bare_face-bare.result c.deref-5.ensures.value c.in_ok-on_ring.ensures.marked c.deref-6.ensures.value c.deref-7.ensures.value
    c.first_bare_face-bare.ensures in
    let rings : c.len-2.result ≡ length n.rings.items = search rules in
    let ids : c.len-3.result ≡ length n.face_ids.items = search rules in
    let components : c.len-4.result ≡ length n.components.items = search rules in
    let count = c.wrong_count.ensures ∙ same_counts c.len-2.result c.len-3.result c.len-4.result (length n.rings.items) (length n.face_ids.items) (length n.components.items) rings ids components ∙ count_told c.args.rotation.now faces c.args.parts.now.components n is in
    then_count (map_with_faces c.args.rotation.now faces) c.first_unreached-unreached.result c.first_bare_face-bare.result c.wrong_count.result unplaced (search rules) bare (search rules) count
