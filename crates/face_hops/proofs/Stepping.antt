-- What a walk gives next, by where it stands.
use Rattle.std.specs.Prelude.{drop, slice_index, if◌then◌else◌}
use Rattle.std.proofs.Common.{◌≡◌, ℕ, zero, suc, ◌+◌, ◌≤◌, true, false, List, [], ◌∷◌, length, refl, sym, ap, ◌∙◌, arith, Some}
use Rattle.scratch_region.specs.Numbers.{numbers_of}
use Rattle.plane_model.specs.PlaneMap.{PlaneMap}
use Rattle.plane_model.specs.Hops.{distance, hops, hops_in}
use Rattle.file_laws.specs.Contents.{Contents}
use Rattle.file_laws.specs.MapOfFile.{face_at_place}
use Rattle.file_laws.specs.Lawful.{is_whole}
use Rattle.navigate.specs.Bound.{map_with}
use Rattle.face_hops.specs.Distances.{AreDistances, as_number}
use Rattle.face_hops.specs.Way.{GoesOnAt}
use Rattle.face_hops.specs.HopWalk.{contents_in, way, rest}
use Rattle.face_hops.specs.declared.walk.HopWalk.{HopWalk}
use Rattle.face_hops.proofs.Ways.{hops_at}
use Rattle.face_hops.proofs.MapFacts.{a_path, face_known}

pub rest_fresh : (w : HopWalk) → w.given ≡ false → rest w ≡ way w
unfolding rest
rest_fresh w e = rw e refl

pub rest_given : (w : HopWalk) → w.given ≡ true → rest w ≡ drop 1 (way w)
unfolding rest
rest_given w e = rw e refl

pub way_is : (w : HopWalk) → way w ≡ hops (map_with (contents_in w)) (face_at_place (contents_in w) w.place) (face_at_place (contents_in w) w.to)
unfolding way
way_is w = refl

hops_head : (n : ℕ) (m : PlaneMap) (f g : ℕ) → hops_in n m f g ≡ f ∷ drop 1 (hops_in n m f g)
hops_head zero m f g = refl
hops_head (suc n) m f g = refl

-- the number at a place is one more than the distance, which is some
pub distance_at : (c : Contents) → is_whole c ≡ true → (to place : ℕ) (ds : List ℕ) → AreDistances c to ds → place ≤ length c.faces → to ≤ length c.faces
    → (n : ℕ) × (distance (map_with c) (face_at_place c place) (face_at_place c to) ≡ Some n) × (slice_index ds place ≡ n + 1)
distance_at c h to place ds right low to_low =
    let r = a_path c h (face_at_place c place) (face_at_place c to) (face_known c h place low) (face_known c h to to_low) in
    (r.0, r.1, right.each place low ∙ ap as_number r.1)

head_at : (c : Contents) → is_whole c ≡ true → (to place : ℕ) (ds : List ℕ) → AreDistances c to ds → place ≤ length c.faces → to ≤ length c.faces
    → hops (map_with c) (face_at_place c place) (face_at_place c to) ≡ face_at_place c place ∷ drop 1 (hops (map_with c) (face_at_place c place) (face_at_place c to))
head_at c h to place ds right low to_low =
    let m = map_with c in
    let f = face_at_place c place in
    let t = face_at_place c to in
    let d = distance_at c h to place ds right low to_low in
    let is : hops m f t ≡ hops_in d.0 m f t = hops_at m f t d.0 d.1 in
    is ∙ hops_head d.0 m f t ∙ ap (λ xs. f ∷ drop 1 xs) (sym is)

pub way_head : (w : HopWalk) → way w ≡ face_at_place (contents_in w) w.place ∷ drop 1 (way w)
way_head w =
    let f = face_at_place (contents_in w) w.place in
    way_is w ∙ head_at (contents_in w) w.served.whole w.to w.place (numbers_of w.distances) w.right w.place_in w.to_in ∙ ap (λ xs. f ∷ drop 1 xs) (sym (way_is w))

-- where the number is 1 the walk is at its end
pub way_end : (w : HopWalk) → slice_index (numbers_of w.distances) w.place ≤ 1 → drop 1 (way w) ≡ []
way_end w l =
    let c = contents_in w in
    let m = map_with c in
    let f = face_at_place c w.place in
    let t = face_at_place c w.to in
    let d = distance_at c w.served.whole w.to w.place (numbers_of w.distances) w.right w.place_in w.to_in in
    let is = d.2 in
    let zero_is : d.0 ≡ 0 = omega (arith, is, l) in
    ap (drop 1) (way_is w ∙ hops_at m f t 0 (d.1 ∙ ap Some zero_is))

-- a walk that goes on to the face at another place
pub step_on : (v : HopWalk) (q face : ℕ) → v.given ≡ true → q ≤ length (contents_in v).faces → GoesOnAt (contents_in v) v.to v.place q → face ≡ face_at_place (contents_in v) q
    → rest v ≡ face ∷ drop (if v.given then 1 else 0) (hops (map_with (contents_in v)) (face_at_place (contents_in v) q) (face_at_place (contents_in v) v.to))
step_on v q face given low on is =
    let c = contents_in v in
    let later = hops (map_with c) (face_at_place c q) (face_at_place c v.to) in
    rest_given v given ∙ ap (drop 1) (way_is v ∙ on) ∙ head_at c v.served.whole v.to q (numbers_of v.distances) v.right low v.to_in
    ∙ ap (λ x. x ∷ drop 1 later) (sym is) ∙ ap (λ b. face ∷ drop (if b then 1 else 0) later) (sym given)
