-- Regions and members that are ready to be numbered.
use Rattle.std.specs.Prelude.{ℕ, ◌≡◌, ◌==◌, Bool, true, List, length, map, find, Option, None, Some, option_map, slice_get, IsTrue}
use Rattle.plane_model.specs.declared.rows.MemberRow.{MemberRow}
use Rattle.plane_model.specs.Sets.{has, rising, is_distinct}
use Rattle.plane_model.specs.PlaneMap.{PlaneMap}
use Rattle.plane_model.specs.Regions.{parent}
use Rattle.region_tree.specs.Ancestors.{ancestor}
use Rattle.region_tree.specs.ByPlace.{AreByPlace}

-- a map's regions by place, none of them on a cycle, and its members as rows, each in a region that is there and no
-- face twice
pub record IsReady (m : PlaneMap) (ids : List ℕ) (parents : List (Option ℕ)) (members : List MemberRow) : Type 0 where
  pub regions : AreByPlace m ids parents
  pub inside : (r p : ℕ) → has m.regions.keys r ≡ true → parent m r ≡ Some p → has m.regions.keys p ≡ true
  pub ends : (r : ℕ) → has m.regions.keys r ≡ true → ancestor (parent m) (length m.regions.keys) (Some r) ≡ None
  pub faces : m.members.keys ≡ rising (map (λ x. x.face) members)
  pub faces_apart : IsTrue (is_distinct (map (λ x. x.face) members))
  pub at : (f : ℕ) → m.members.at f ≡ option_map (λ x. x.region) (find (λ x. x.face == f) members)
  pub there : (k : ℕ) (row : MemberRow) → slice_get members k ≡ Some row → has ids row.region ≡ true
