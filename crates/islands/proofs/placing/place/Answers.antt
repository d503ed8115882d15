use Rattle.std.proofs.Common.{rules, ◌≡◌, ◌∙◌, ℕ, List, map, sym, ap, None}
use Rattle.std.specs.Prelude.{slice_index, is_none}
use Rattle.plane_model.specs.Faces.{outer_rings}
use Rattle.plane_model.specs.Faults.{placement_fault}
use Rattle.plane_model.proofs.AllFaults.{none-placement_fault}
use Rattle.islands.specs.Darts.{AreDartsOf}
use Rattle.islands.specs.Placed.{map_with_faces}
use Rattle.islands.proofs.Placements.{outer_of, starts_below, starts_within, starts_are, faces_are}
use Rattle.islands.proofs.placing.place.Goals as goal
use Rattle.islands.proofs.placing.place.Goals.{In_ok-refusal}

pub returns-in-Some-clause-refused : goal.returns-in-Some-clause-refused
returns-in-Some-clause-refused c =
    let r = c.args.rotation.now in
    let faces = c.args.faces.now in
    let is = c.in_ok-map.ensures in
    let outer = outer_of r faces c.args.parts.now.components c.in_ok-map.map is c.deref.result.now c.deref-2.result.now c.in_ok-starts.starts.items c.deref-3.result.now c.len.result c.deref.ensures.value c.deref-2.ensures.value (search rules) c.in_ok-starts.ensures.rings c.deref-3.ensures.value in
    sym (c.in_ok-refusal.ensures faces is outer) ∙ c.in-Some.is

pub places-requires-clause-starts : goal.places-requires-clause-starts
places-requires-clause-starts c =
    let below = starts_below c.args.rotation.now c.args.faces.now c.args.parts.now.components c.in_ok-map.map c.in_ok-map.ensures c.deref.result.now c.in_ok-starts.starts.items c.deref-5.result.now c.deref.ensures.value c.in_ok-starts.ensures.below c.deref-5.ensures.value in
    starts_within c.args.rotation.now c.args.faces.now c.args.parts.now.components c.in_ok-map.map c.in_ok-map.ensures c.deref-4.result.now c.deref-5.result.now c.deref-4.ensures.value below

fine : (c : In_ok-refusal) → c.in_ok-refusal.field-0 ≡ None → placement_fault (map_with_faces c.args.rotation.now c.args.faces.now) ≡ None
fine c none =
    let faces = c.args.faces.now in
    let is = c.in_ok-map.ensures in
    let outer = outer_of c.args.rotation.now faces c.args.parts.now.components c.in_ok-map.map is c.deref.result.now c.deref-2.result.now c.in_ok-starts.starts.items c.deref-3.result.now c.len.result c.deref.ensures.value c.deref-2.ensures.value (search rules) c.in_ok-starts.ensures.rings c.deref-3.ensures.value in
    sym (c.in_ok-refusal.ensures faces is outer) ∙ none

pub returns-clause-fine : goal.returns-clause-fine
returns-clause-fine c = fine ((goal.at.returns-clause-fine c).In_ok-refusal) c.in_default.is

pub returns-clause-placed : goal.returns-clause-placed
returns-clause-placed c =
    let none = fine ((goal.at.returns-clause-placed c).In_ok-refusal) c.in_default.is in
    sym (none-placement_fault (map_with_faces c.args.rotation.now c.args.faces.now)) ∙ ap is_none none

are : (c : In_ok-refusal) (places : List ℕ) (drings dstarts : List ℕ) → drings ≡ c.in_ok-map.map.rings.items → dstarts ≡ c.in_ok-starts.starts.items → places ≡ map (slice_index drings) dstarts → AreDartsOf c.args.rotation.now.edges (outer_rings (map_with_faces c.args.rotation.now c.args.faces.now)) places
are c places drings dstarts er es ep =
    let r = c.args.rotation.now in
    let faces = c.args.faces.now in
    let p = c.args.parts.now.components in
    let is = c.in_ok-map.ensures in
    let outer = outer_of r faces p c.in_ok-map.map is c.deref.result.now c.deref-2.result.now c.in_ok-starts.starts.items dstarts c.len.result c.deref.ensures.value c.deref-2.ensures.value (search rules) c.in_ok-starts.ensures.rings es in
    let below = starts_below r faces p c.in_ok-map.map is c.deref.result.now c.in_ok-starts.starts.items dstarts c.deref.ensures.value c.in_ok-starts.ensures.below es in
    starts_are r faces p c.in_ok-map.map is drings dstarts places er ep below outer

pub returns-clause-starts : goal.returns-clause-starts
returns-clause-starts c = are ((goal.at.returns-clause-starts c).In_ok-refusal) c.in_ok-places.field-0.starts c.deref-4.result.now c.deref-5.result.now c.deref-4.ensures.value c.deref-5.ensures.value c.in_ok-places.ensures.starts

pub returns-clause-containing : goal.returns-clause-containing
returns-clause-containing c =
    let darts = are ((goal.at.returns-clause-containing c).In_ok-refusal) c.in_ok-places.field-0.starts c.deref-4.result.now c.deref-5.result.now c.deref-4.ensures.value c.deref-5.ensures.value c.in_ok-places.ensures.starts in
    faces_are c.args.rotation.now c.args.faces.now c.args.parts.now.components c.in_ok-map.map c.in_ok-map.ensures c.in_ok-places.field-0.starts c.in_ok-places.field-0.faces c.in_ok-places.ensures.faces darts

pub returns-clause-exactly : goal.returns-clause-exactly
returns-clause-exactly c = none-placement_fault (map_with_faces c.args.rotation.now c.args.faces.now)

pub returns-in-Some-clause-exactly : goal.returns-in-Some-clause-exactly
returns-in-Some-clause-exactly c = none-placement_fault (map_with_faces c.args.rotation.now c.args.faces.now)

pub returns-in_err-map-clause-exactly : goal.returns-in_err-map-clause-exactly
returns-in_err-map-clause-exactly c = none-placement_fault (map_with_faces c.args.rotation.now c.args.faces.now)

pub returns-in_err-places-clause-exactly : goal.returns-in_err-places-clause-exactly
returns-in_err-places-clause-exactly c = none-placement_fault (map_with_faces c.args.rotation.now c.args.faces.now)

pub returns-in_err-refusal-clause-exactly : goal.returns-in_err-refusal-clause-exactly
returns-in_err-refusal-clause-exactly c = none-placement_fault (map_with_faces c.args.rotation.now c.args.faces.now)

pub returns-in_err-starts-clause-exactly : goal.returns-in_err-starts-clause-exactly
returns-in_err-starts-clause-exactly c = none-placement_fault (map_with_faces c.args.rotation.now c.args.faces.now)
