-- Where a walk round the outline of a region of a map stands: what it still gives, and what it gave.
use Rattle.std.specs.Prelude.{◌≡◌, ℕ, ◌-◌, ℤ, IsTrue, List, [], ◌++◌, map, filter, take, drop, length, Option, Some, None}
use Rattle.plane_model.specs.PlaneMap.{PlaneMap, signed_edges}
use Rattle.plane_model.specs.Answers.{has_signed_edge}
use Rattle.plane_model.specs.Border.{border_ring, border}
use Rattle.region_border.specs.Beginnings.{begins_ring}
use Rattle.region_border.specs.Items.{ring_items, items_of, edges_in}
use Rattle.region_border.specs.Rings.{ring_left}
use Rattle.region_border.specs.declared.item.BorderItem.{BorderItem}
use Rattle.region_border.specs.declared.ring.Ring.{Ring}

-- the items of the border rings that begin at some of these signed edges
abbrev pub items_from : PlaneMap → ℕ → List ℤ → List BorderItem
items_from m r ds = items_of (map (border_ring m r) (filter (begins_ring m r) ds))

-- those left of the ring where it stands
abbrev pub items_on : PlaneMap → ℕ → Option Ring → List BorderItem
items_on m r None = []
items_on m r (Some ring) = ring_items (ring_left m r ring)

-- what it still gives, where so many signed edges were looked at for beginnings
unfoldable pub items_left : PlaneMap → ℕ → ℕ → Option Ring → List BorderItem
items_left m r seen ring = items_on m r ring ++ items_from m r (drop seen (signed_edges m))

-- all signed edges that it gives
unfoldable pub all_edges : PlaneMap → ℕ → List ℤ
all_edges m r = edges_in (items_of (border m r))

-- of these those before the ones among the items that are left
unfoldable pub edges_before : PlaneMap → ℕ → List BorderItem → List ℤ
edges_before m r items = take (length (all_edges m r) - length (edges_in items)) (all_edges m r)

-- the next signed edge of the ring is the map's
abbrev pub IsOnMap : PlaneMap → Option Ring → Type 0
IsOnMap m ring = (q : Ring) → ring ≡ Some q → IsTrue (has_signed_edge m q.at)

-- what it gave and what it still gives make all
pub record IsStanding (m : PlaneMap) (r seen : ℕ) (ring : Option Ring) : Type 0 where
  pub on_map : IsOnMap m ring
  pub whole : all_edges m r ≡ edges_before m r (items_left m r seen ring) ++ edges_in (items_left m r seen ring)
