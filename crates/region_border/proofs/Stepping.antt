-- A walk round an outline, settled and stepped: what holds of the walk before holds of the one that stands ready.
use Rattle.std.specs.Prelude.{slice_index, map, IfSome, IsTrue, is_some}
use Rattle.std.proofs.Common.{◌≡◌, ℕ, ◌+◌, ◌≤◌, ℤ, pos, true, false, List, refl, sym, ap, ◌∙◌, subst, arith, Option, Some, None}
use Rattle.std.proofs.lemmas.Bool.{both_ways}
use Rattle.scratch_region.specs.declared.marks.Marks.{Marks}
use Rattle.plane_model.specs.Sets.{has}
use Rattle.plane_model.specs.PlaneMap.{PlaneMap}
use Rattle.plane_model.specs.Answers.{has_signed_edge}
use Rattle.file_laws.specs.Contents.{Contents}
use Rattle.navigate.specs.Bound.{map_with}
use Rattle.region_border.specs.Items.{is_edge}
use Rattle.region_border.specs.Numbered.{mark_of}
use Rattle.region_border.specs.Standing.{edges_before, IsOnMap}
use Rattle.region_border.specs.BorderWalk.{contents_in, rest, given, HoldsGiven}
use Rattle.region_border.specs.declared.item.BorderItem.{BorderItem}
use Rattle.region_border.specs.declared.ring.Ring.{Ring}
use Rattle.region_border.specs.declared.walk.BorderWalk.{BorderWalk}

abbrev at_or : Option Ring → ℤ
at_or None = pos 0
at_or (Some q) = q.at

-- a ring is on the map where its next signed edge is one of it
pub on_one : (m : PlaneMap) (q : Ring) → has_signed_edge m q.at ≡ true → IsOnMap m (Some q)
on_one m q known x e = subst (λ (d : ℤ). has_signed_edge m d ≡ true) (ap at_or e) known

-- a ring is not none
pub not_both : (ring : Option Ring) (q : Ring) → ring ≡ Some q → ring ≡ None → true ≡ false
not_both ring q some none = sym (ap is_some some) ∙ ap is_some none

-- walks over the same contents, round the same region, that have the same items left gave the same
pub given_same : (v w : BorderWalk) → contents_in w ≡ contents_in v → w.region ≡ v.region → rest w ≡ rest v → given w ≡ given v
unfolding given
given_same v w same region left =
    ap (λ (c : Contents). edges_before (map_with c) (slice_index c.regions w.region) (rest w)) same
    ∙ ap (λ (n : ℕ). edges_before (map_with (contents_in v)) (slice_index (contents_in v).regions n) (rest w)) region
    ∙ ap (λ (items : List BorderItem). edges_before (map_with (contents_in v)) (slice_index (contents_in v).regions v.region) items) left

pub held_same : (v w : BorderWalk) (marks : Marks) → contents_in w ≡ contents_in v → w.region ≡ v.region → rest w ≡ rest v → HoldsGiven v marks → HoldsGiven w marks
held_same v w marks same region left held j =
    held j
    ∙ ap (λ (ds : List ℤ). has (map (mark_of (contents_in v)) ds) j) (sym (given_same v w same region left))
    ∙ ap (λ (c : Contents). has (map (mark_of c) (given w)) j) (sym same)

-- what is read before counts too
pub least_more : (o : Option BorderItem) (first second last : ℕ) → first ≤ second → IfSome o (λ item. IsTrue (is_edge item) → second + 1 ≤ last) → IfSome o (λ item. IsTrue (is_edge item) → first + 1 ≤ last)
least_more None first second last l least = least
least_more (Some item) first second last l least = λ edge. let some = least edge in omega (arith, l, some)
