-- The text of the outline of a region: a line for each ring, and a last line of how many there are.
use Rattle.std.specs.Prelude.{ℕ, ℤ, if◌then◌else◌, List, [], ◌∷◌, ◌++◌, map, flat_map, length, Option, Some, codes, decimal}
use Rattle.topo_base.specs.Script.{Item}
use Rattle.plane_model.specs.PlaneMap.{PlaneMap}
use Rattle.plane_model.specs.Regions.{is_region}
use Rattle.plane_model.specs.Border.{border}
use Rattle.plane_model.specs.Answers.{after_colon, where_known}

-- the line of a ring: its signed edges in order
abbrev pub ring_line : List ℤ → List ℕ
ring_line ds = codes "ring:" ++ after_colon (Some (map Item.Signed_edge ds)) ++ 10 ∷ []

-- the rings of a region that the map has
abbrev pub rings_told : PlaneMap → ℕ → List (List ℤ)
rings_told m r = if is_region m r then border m r else []

-- how many signed edges these have together
abbrev pub edges_told : PlaneMap → ℕ → ℕ
edges_told m r = length (flat_map (λ ds. ds) (rings_told m r))

-- how many rings and how many signed edges, or nothing where the map lacks the region
abbrev pub border_items : PlaneMap → ℕ → Option (List Item)
border_items m r = where_known (is_region m r) (map Item.Number (length (rings_told m r) ∷ edges_told m r ∷ []))

-- the word and the region that was asked for, and the colon
abbrev pub region_text : ℕ → List ℕ
region_text r = codes "border " ++ decimal r ++ codes ":"

-- the lines of the rings, and the last line
abbrev pub border_text : PlaneMap → ℕ → List ℕ
border_text m r = flat_map ring_line (rings_told m r) ++ region_text r ++ after_colon (border_items m r) ++ 10 ∷ []
