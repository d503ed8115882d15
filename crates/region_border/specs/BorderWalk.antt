-- What a walk round an outline gave, what it still gives, and what it may still read.
use Rattle.std.specs.Prelude.{◌≡◌, ℕ, ℤ, List, map, slice_index}
use Rattle.plane_model.specs.Sets.{has}
use Rattle.plane_model.specs.PlaneMap.{PlaneMap}
use Rattle.file_laws.specs.Contents.{Contents}
use Rattle.scratch_region.specs.Marks.{is_marked}
use Rattle.scratch_region.specs.declared.marks.Marks.{Marks}
use Rattle.pemb_file.specs.Served.{contents_of_view}
use Rattle.navigate.specs.Bound.{map_with}
use Rattle.region_border.specs.Numbered.{mark_of}
use Rattle.region_border.specs.Prices.{walk_price}
use Rattle.region_border.specs.Standing.{items_left, edges_before}
use Rattle.region_border.specs.declared.item.BorderItem.{BorderItem}
use Rattle.region_border.specs.declared.walk.BorderWalk.{BorderWalk}

-- the contents that it goes over
abbrev pub contents_in : BorderWalk → Contents
contents_in w = contents_of_view w.served

-- their map
abbrev pub map_in : BorderWalk → PlaneMap
map_in w = map_with (contents_in w)

-- the region's id
abbrev pub region_in : BorderWalk → ℕ
region_in w = slice_index (contents_in w).regions w.region

-- the items that it still gives
unfoldable pub rest : BorderWalk → List BorderItem
rest w = items_left (map_in w) (region_in w) w.seen w.ring

-- the signed edges that it gave so far
unfoldable pub given : BorderWalk → List ℤ
given w = edges_before (map_in w) (region_in w) (rest w)

-- the marks are the numbers of the signed edges that it gave so far
abbrev pub HoldsGiven : BorderWalk → Marks → Type 0
HoldsGiven w marks = (j : ℕ) → is_marked marks j ≡ has (map (mark_of (contents_in w)) (given w)) j

-- how many words it still reads at most, to its end and in its close
unfoldable pub allowance : BorderWalk → ℕ
allowance w = walk_price (contents_in w) (region_in w) w.seen (rest w)
