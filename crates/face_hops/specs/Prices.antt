-- What going round faces costs, and what a shortest walk over them may read.
use Rattle.std.specs.Prelude.{ℕ, ◌+◌, ◌*◌, List, [], ◌∷◌, length}
use Rattle.bit_words.specs.Digits.{digits}
use Rattle.plane_model.specs.PlaneMap.{PlaneMap}
use Rattle.plane_model.specs.Consistent.{size}
use Rattle.plane_model.specs.Lists.{face_edges}
use Rattle.file_laws.specs.Contents.{Contents}
use Rattle.navigate.specs.Bound.{map_with, line_digits}
use Rattle.navigate.specs.OrbitWalk as orbits
use Rattle.navigate.specs.FaceWalk as rings

-- how many words a shortest walk may read, from its making to the end of its list
abbrev pub most_hop_words : PlaneMap → ℕ
most_hop_words m = 8192 * digits (size m) * (size m + 2)

-- how many signed edges these faces have together
unfoldable pub along : PlaneMap → List ℕ → ℕ
along m [] = 0
along m (f ∷ fs) = length (face_edges m f) + along m fs

-- what going round a face costs at most for each of its signed edges: a step of the search for the smallest, and a look
-- across
abbrev pub edge_price : Contents → ℕ
edge_price c = orbits.rank_price c + rings.pass_price c

-- and what it costs at most besides
abbrev pub start_price : Contents → ℕ
start_price c = 10 * line_digits c + 24

-- what going round these faces costs at most
abbrev pub rounds_price : Contents → List ℕ → ℕ
rounds_price c fs = edge_price c * along (map_with c) fs + start_price c * length fs

-- what going round all faces costs at most
abbrev pub search_price : Contents → ℕ
search_price c = edge_price c * (2 * length c.edges) + start_price c * (length c.faces + 1)

-- what reading the id of a face costs at most
abbrev pub name_price : Contents → ℕ
name_price c = 3 * line_digits c + 20
