-- The faults of rows, by the ids that there are.
use Rattle.std.specs.Prelude.{find, filter, option_map, option_and_then, is_some, is_none, slice_index, slice_get, not}
use Rattle.std.proofs.Common.{◌≡◌, ℕ, zero, suc, ◌+◌, ◌<◌, ◌≤◌, inl, inr, Bool, true, false, ◌==◌, ◌||◌, List, [], ◌∷◌, map, length, refl, ap, sym, ◌∙◌, subst, arith, Option, Some, None}
use Rattle.std.proofs.lemmas.Bool.{cases_Bool, both_ways}
use Rattle.topo_base.specs.declared.refusal.Refusal.{Refusal}
use Rattle.topo_base.specs.declared.refusal.Refusal.TheVariants as refusal
use Rattle.topo_base.specs.declared.refusal.Table.TheVariants as table
use Rattle.plane_model.specs.declared.rows.RegionRow.{RegionRow}
use Rattle.plane_model.specs.declared.rows.MemberRow.{MemberRow}
use Rattle.plane_model.specs.Rows.{Rows}
use Rattle.plane_model.specs.Sets.{has, or_else}
use Rattle.plane_model.specs.PlaneMap.{map_of}
use Rattle.plane_model.specs.Rotation.{is_face}
use Rattle.plane_model.specs.Regions.{is_region}
use Rattle.plane_model.specs.Faults.{first_in, unless, no_parent, no_member_region, no_member_face}
use Rattle.plane_model.proofs.FaultParts.{has_key_at}
use Rattle.rotation_check.proofs.RowLemmas.{is_face-has}
use Rattle.region_tree.specs.Checked.{missing_parent, missing_region, missing_face}

pub first_in-same : {R : Type 0} (f g : R → Option Refusal) (rows : List R) → ((r : R) → f r ≡ g r) → first_in f rows ≡ first_in g rows
first_in-same f g [] same = refl
first_in-same f g (r ∷ rows) same = ap (λ o. or_else o (first_in f rows)) (same r) ∙ ap (or_else (g r)) (first_in-same f g rows same)

-- where no row has a fault, a row has none
pub none_in : {R : Type 0} (f : R → Option Refusal) (rows : List R) → first_in f rows ≡ None → (j : ℕ) (row : R) → slice_get rows j ≡ Some row → f row ≡ None
none_in f [] h j row at = cc
none_in f (r ∷ rows) h zero row at = let e : r ≡ row = cc in subst (λ x. f x ≡ None) e (first (f r) h)
  where
    first : (o : Option Refusal) → or_else o (first_in f rows) ≡ None → o ≡ None
    first None h = refl
    first (Some e) h = cc
none_in f (r ∷ rows) h (suc j) row at = none_in f rows (later (f r) h) j row at
  where
    later : (o : Option Refusal) → or_else o (first_in f rows) ≡ None → first_in f rows ≡ None
    later None h = h
    later (Some e) h = cc

module _ (t : Rows) (ids : List ℕ) (is : ids ≡ (map_of t).regions.keys) where
  pub region-has : (x : ℕ) → has ids x ≡ is_region (map_of t) x
  region-has x = ap (λ xs. has xs x) is ∙ has_key_at (λ r. r.id) (λ r. r.parent) t.regions x

  parent_same : (id : ℕ) (p : Option ℕ) → missing_parent ids (record { id = id; parent = p }) ≡ no_parent (map_of t) (record { id = id; parent = p })
  parent_same id None = refl
  parent_same id (Some p) = ap (λ b. unless b (refusal.NoRegion table.Region id p)) (region-has p)

  pub parents-fault : (rows : List RegionRow) → first_in (missing_parent ids) rows ≡ first_in (no_parent (map_of t)) rows
  parents-fault rows = first_in-same (missing_parent ids) (no_parent (map_of t)) rows (λ r. parent_same r.id r.parent)

  pub regions-fault : (rows : List MemberRow) → first_in (missing_region ids) rows ≡ first_in (no_member_region (map_of t)) rows
  regions-fault rows = first_in-same (missing_region ids) (no_member_region (map_of t)) rows (λ x. ap (λ b. unless b (refusal.NoRegion table.Member x.face x.region)) (region-has x.region))

module _ (t : Rows) (ids : List ℕ) (is : ids ≡ map (λ r. r.id) t.faces) where
  face-has : (f : ℕ) → ((f == 0) || has ids f) ≡ is_face (map_of t) f
  face-has f = elim (cases_Bool (f == 0)) [
    | inl outer ↦ rw outer refl
    | inr some ↦ rw some (ap (λ xs. has xs f) is ∙ sym (rw some at (is_face-has t f some)))
  ]

  pub faces-fault : (rows : List MemberRow) → first_in (missing_face ids) rows ≡ first_in (no_member_face (map_of t)) rows
  faces-fault rows = first_in-same (missing_face ids) (no_member_face (map_of t)) rows (λ x. ap (λ b. unless b (refusal.NoFace table.Member x.region x.face)) (face-has x.face))
