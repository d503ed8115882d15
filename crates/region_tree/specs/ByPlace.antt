-- The regions of a map by their places among the rising ids.
use Rattle.std.specs.Prelude.{ℕ, ◌≡◌, ◌<◌, List, length, slice_index, Option, option_map, IsTrue}
use Rattle.plane_model.specs.Sets.{is_distinct}
use Rattle.plane_model.specs.PlaneMap.{PlaneMap}
use Rattle.plane_model.specs.Regions.{parent}
use Rattle.region_tree.specs.Ancestors.{parent_at, AreParentNumbers}

-- the rising ids of the regions, and for each the place of its parent
pub record AreByPlace (m : PlaneMap) (ids : List ℕ) (parents : List (Option ℕ)) : Type 0 where
  pub ids_are : ids ≡ m.regions.keys
  pub apart : IsTrue (is_distinct ids)
  pub many : length parents ≡ length ids
  pub places : AreParentNumbers parents
  pub parent_is : (k : ℕ) → k < length ids → parent m (slice_index ids k) ≡ option_map (slice_index ids) (parent_at parents k)
