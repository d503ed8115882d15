-- What is wrong with rows of regions, and with rows of members.
use Rattle.std.specs.Prelude.{ℕ, ◌==◌, ◌||◌, Bool, List, [], ◌∷◌, map, Option, Some, None, option_map, option_and_then}
use Rattle.topo_base.specs.declared.refusal.Refusal.{Refusal}
use Rattle.topo_base.specs.declared.refusal.Refusal.TheVariants as refusal
use Rattle.topo_base.specs.declared.refusal.Table.TheVariants as table
use Rattle.plane_model.specs.declared.rows.RegionRow.{RegionRow}
use Rattle.plane_model.specs.declared.rows.MemberRow.{MemberRow}
use Rattle.plane_model.specs.Rows.{Rows}
use Rattle.plane_model.specs.Sets.{has}
use Rattle.plane_model.specs.PlaneMap.{map_of}
use Rattle.plane_model.specs.Faults.{first_of, first_in, unless, id_twice, least_twice, no_parent, region_cycle, no_member_region, no_member_face}

-- a parent that is not among the ids
abbrev pub missing_parent : List ℕ → RegionRow → Option Refusal
missing_parent ids row = option_and_then (λ p. unless (has ids p) (refusal.NoRegion table.Region row.id p)) row.parent

-- a member's region that is not among the ids
abbrev pub missing_region : List ℕ → MemberRow → Option Refusal
missing_region ids row = unless (has ids row.region) (refusal.NoRegion table.Member row.face row.region)

-- a member's face that is not 0 and not among the ids
abbrev pub missing_face : List ℕ → MemberRow → Option Refusal
missing_face ids row = unless ((row.face == 0) || has ids row.face) (refusal.NoFace table.Member row.region row.face)

-- the first fault of the rows of regions
abbrev pub nesting_fault : Rows → Option Refusal
nesting_fault t =
    first_of (
    id_twice table.Region (map (λ r. r.id) t.regions)
    ∷ first_in (no_parent (map_of t)) t.regions
    ∷ region_cycle (map_of t)
    ∷ [])

-- the first fault of the rows of members
abbrev pub member_fault : Rows → Option Refusal
member_fault t =
    first_of (
    first_in (no_member_region (map_of t)) t.members
    ∷ first_in (no_member_face (map_of t)) t.members
    ∷ option_map refusal.MemberTwice (least_twice (map (λ x. x.face) t.members))
    ∷ [])
