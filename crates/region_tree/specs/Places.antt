-- The places of parents among rising ids.
use Rattle.std.specs.Prelude.{ℕ, ◌≡◌, ◌<◌, Bool, false, List, length, slice_get, slice_index, slice_index_or, Option, Some, None}
use Rattle.plane_model.specs.declared.rows.RegionRow.{RegionRow}
use Rattle.plane_model.specs.Sets.{has}

-- a parent is at a place, or there is none
abbrev pub IsParentPlace : List ℕ → Option ℕ → Option ℕ → Type 0
IsParentPlace ids None place = place ≡ None
IsParentPlace ids (Some parent) None = has ids parent ≡ false
IsParentPlace ids (Some parent) (Some place) = (place < length ids) × (slice_index ids place ≡ parent)

-- the places of the parents of the first n rows
pub record AreFirstParentPlaces (ids : List ℕ) (rows : List RegionRow) (n : ℕ) (parents : List (Option ℕ)) : Type 0 where
  pub many : length parents ≡ n
  pub at : (k : ℕ) (row : RegionRow) → k < n → slice_get rows k ≡ Some row → IsParentPlace ids row.parent (slice_index_or parents k None)

abbrev pub AreParentPlaces : List ℕ → List RegionRow → List (Option ℕ) → Type 0
AreParentPlaces ids rows parents = AreFirstParentPlaces ids rows (length rows) parents
