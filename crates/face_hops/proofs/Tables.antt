-- The laws on paths, of consistent tables.
use Rattle.std.proofs.Common.{◌≡◌, ℕ, ◌+◌, ◌≤◌, true, length, sym, subst, arith, Some}
use Rattle.std.proofs.lemmas.Bool.{and_parts}
use Rattle.plane_model.specs.Rows.{Rows}
use Rattle.plane_model.specs.Sets.{has, is_distinct}
use Rattle.plane_model.specs.PlaneMap.{map_of}
use Rattle.plane_model.specs.InRange.{is_in_range}
use Rattle.plane_model.specs.Consistent.{is_consistent}
use Rattle.plane_model.specs.Rotation.{is_face, has_faces, is_rotation_system}
use Rattle.plane_model.specs.Component.{is_plane}
use Rattle.plane_model.specs.Faces.{is_labelled, is_placed}
use Rattle.plane_model.specs.Regions.{is_region_forest}
use Rattle.plane_model.specs.Lists.{adjacent}
use Rattle.plane_model.specs.Hops.{distance, hops, hops_in}
use Rattle.placement_laws.specs.Placing.{IsLabelledRotation}
use Rattle.placement_laws.proofs.Tables.{labelled_rotation_of}
use Rattle.face_hops.proofs.Beside.{adjacent-sym, adjacent_known}
use Rattle.face_hops.proofs.Joined.{faces_joined}
use Rattle.face_hops.proofs.Ways.{IsWay, nearest, way, few_moves, hops_at}

-- what consistent tables have of it
record Parts (t : Rows) : Type 0 where
  labelled : IsLabelledRotation t
  placed : is_placed (map_of t) ≡ true
  faces : has_faces (map_of t) ≡ true

parts_of : (t : Rows) → is_in_range t ≡ true → is_consistent t ≡ true → Parts t
parts_of t range ok =
    let a = and_parts _ (is_region_forest t) ok in
    let b = and_parts _ (is_placed (map_of t)) a.0 in
    let c = and_parts _ (is_plane (map_of t)) b.0 in
    let d = and_parts (is_rotation_system t) (is_labelled (map_of t)) c.0 in
    record { labelled = labelled_rotation_of t range d.0 d.1; placed = b.1; faces = (and_parts _ (has_faces (map_of t)) d.0).1 }

known_of : (t : Rows) → Parts t → (f x : ℕ) → has (adjacent (map_of t) f) x ≡ true → is_face (map_of t) x ≡ true
known_of t p = adjacent_known t p.labelled p.placed p.faces

pub path_some : (t : Rows) (f g : ℕ) → is_in_range t ≡ true → is_consistent t ≡ true → is_face (map_of t) f ≡ true → is_face (map_of t) g ≡ true → (n : ℕ) × (distance (map_of t) f g ≡ Some n) × (n ≤ length (map_of t).faces)
path_some t f g range ok f_in g_in =
    let p = parts_of t range ok in
    let r = faces_joined t p.labelled p.placed p.faces f g f_in g_in in
    (r.0, r.1, few_moves (map_of t) g (known_of t p) r.0 f f_in r.2)

the_way : (t : Rows) (f g n : ℕ) → is_in_range t ≡ true → is_consistent t ≡ true → is_face (map_of t) f ≡ true → distance (map_of t) f g ≡ Some n → IsWay (map_of t) g n (hops (map_of t) f g)
the_way t f g n range ok f_in e =
    let p = parts_of t range ok in
    let is : hops (map_of t) f g ≡ hops_in n (map_of t) f g = hops_at (map_of t) f g n e in
    subst (IsWay (map_of t) g n) (sym is) (way (map_of t) g (known_of t p) n f f_in (nearest (map_of t) f g n e))

pub way_long : (t : Rows) (f g n : ℕ) → is_in_range t ≡ true → is_consistent t ≡ true → is_face (map_of t) f ≡ true → distance (map_of t) f g ≡ Some n → length (hops (map_of t) f g) ≡ n + 1
way_long t f g n range ok f_in e = let w = the_way t f g n range ok f_in e in let l = w.long in omega (arith, l)

pub way_apart : (t : Rows) (f g n : ℕ) → is_in_range t ≡ true → is_consistent t ≡ true → is_face (map_of t) f ≡ true → distance (map_of t) f g ≡ Some n → is_distinct (hops (map_of t) f g) ≡ true
way_apart t f g n range ok f_in e = let w = the_way t f g n range ok f_in e in w.apart

pub beside_both : (t : Rows) (f g : ℕ) → is_in_range t ≡ true → is_consistent t ≡ true → has (adjacent (map_of t) f) g ≡ true → has (adjacent (map_of t) g) f ≡ true
beside_both t f g range ok on = let p = parts_of t range ok in adjacent-sym t p.labelled p.placed f g on
