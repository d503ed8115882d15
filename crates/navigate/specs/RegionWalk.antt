-- What a walk from a region to its parents still gives, and what it may still read.
use Rattle.std.specs.Prelude.{ℕ, ◌+◌, ◌*◌, List, [], map, length, slice_index, Option, Some, None}
use Rattle.region_tree.specs.Nesting.{chain}
use Rattle.file_laws.specs.Contents.{Contents}
use Rattle.pemb_file.specs.Served.{contents_of_view}
use Rattle.navigate.specs.Bound.{line_digits}
use Rattle.navigate.specs.declared.upward.RegionWalk.{RegionWalk}

-- the contents that it goes over
abbrev pub contents_in : RegionWalk → Contents
contents_in w = contents_of_view w.served

-- the ids of a region and its parents, by the region's number
abbrev pub ids_up : Contents → Option ℕ → List ℕ
ids_up c None = []
ids_up c (Some x) = map (slice_index c.regions) (chain c.region_bits x)

-- the regions that it still gives
unfoldable pub rest : RegionWalk → List ℕ
rest w = ids_up (contents_in w) w.next

-- what reading a region's id and finding its parent cost at most
abbrev pub price : Contents → ℕ
price c = 10 * line_digits c + 81

-- how many words it still reads at most
unfoldable pub allowance : RegionWalk → ℕ
allowance w = price (contents_in w) * length (rest w)
