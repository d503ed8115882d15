-- What a walk round an outline may read, and what its parts cost at most.
use Rattle.std.specs.Prelude.{ℕ, ◌+◌, ◌-◌, ◌*◌, List, flat_map, length}
use Rattle.bit_words.specs.Digits.{digits}
use Rattle.plane_model.specs.PlaneMap.{PlaneMap}
use Rattle.plane_model.specs.Consistent.{size}
use Rattle.file_laws.specs.Contents.{Contents}
use Rattle.navigate.specs.Bound.{map_with, line_digits}
use Rattle.region_border.specs.Looked.{looked}
use Rattle.region_border.specs.Items.{edges_in}
use Rattle.region_border.specs.declared.item.BorderItem.{BorderItem}

-- how many words a walk round an outline may read, from its making through its close
abbrev pub most_border_words : PlaneMap → ℕ
most_border_words m = 8192 * digits (size m) * (size m + 2)

-- whether a face is inside
abbrev pub inside_price : Contents → ℕ
inside_price c = 30 * line_digits c + 192

-- whether a signed edge is a border edge: its two faces, and whether they are inside
abbrev pub border_price : Contents → ℕ
border_price c = 1084 * line_digits c + 384

-- the next signed edge of a ring
abbrev pub next_price : Contents → ℕ
next_price c = 768 * line_digits c

-- looking at one signed edge on the way to the next one of the outline
abbrev pub look_price : Contents → ℕ
look_price c = 1852 * line_digits c + 384

-- the number of a signed edge among the marks
abbrev pub mark_price : Contents → ℕ
mark_price c = 12 * line_digits c + 60

-- both
abbrev pub turn_price : Contents → ℕ
turn_price c = 1864 * line_digits c + 444

-- a signed edge by its place among all
abbrev pub find_price : Contents → ℕ
find_price c = 7 * line_digits c + 40

-- whether the signed edge at a place begins a ring
abbrev pub scan_price : Contents → ℕ
scan_price c = 1091 * line_digits c + 424

-- what is left to read, where so many places were looked at and these items are still to come
abbrev pub walk_price : Contents → ℕ → ℕ → List BorderItem → ℕ
walk_price c r seen items = scan_price c * (2 * length c.edges - seen) + turn_price c * length (flat_map (looked (map_with c) r) (edges_in items))
