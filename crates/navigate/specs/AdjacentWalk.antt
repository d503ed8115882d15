-- What a walk to the faces across the edges of a face gave, what it still gives, and what it may still read.
use Rattle.std.specs.Prelude.{◌≡◌, ℕ, ◌+◌, ◌*◌, List, map, take, drop, length}
use Rattle.plane_model.specs.Sets.{has}
use Rattle.file_laws.specs.Contents.{Contents}
use Rattle.file_laws.specs.MapOfFile.{face_at_place}
use Rattle.scratch_region.specs.Marks.{is_marked}
use Rattle.scratch_region.specs.declared.marks.Marks.{Marks}
use Rattle.navigate.specs.Bound.{line_digits}
use Rattle.navigate.specs.Beside.{adjacent_places}
use Rattle.navigate.specs.FaceWalk as rings
use Rattle.navigate.specs.FaceWalk.{face_positions, pass_price}
use Rattle.navigate.specs.declared.across.AdjacentWalk.{AdjacentWalk}

-- the contents that it goes over
abbrev pub contents_in : AdjacentWalk → Contents
contents_in w = rings.contents_in w.left

-- the places of all faces that it gives
abbrev pub whole_places : AdjacentWalk → List ℕ
whole_places w = adjacent_places (contents_in w) w.place (face_positions w.whole)

-- the places of those that it gave so far
abbrev pub given_places : AdjacentWalk → List ℕ
given_places w = take w.count (whole_places w)

-- the faces that it gave so far, and those that it still gives
unfoldable pub given : AdjacentWalk → List ℕ
given w = map (face_at_place (contents_in w)) (given_places w)

unfoldable pub rest : AdjacentWalk → List ℕ
rest w = map (face_at_place (contents_in w)) (drop w.count (whole_places w))

-- the marks are the places of the faces that it gave so far
abbrev pub HoldsGiven : AdjacentWalk → Marks → Type 0
HoldsGiven w marks = (j : ℕ) → is_marked marks j ≡ has (given_places w) j

-- what going on from a position, looking across the next edge and reading the id of a face cost at most
abbrev pub step_price : Contents → ℕ
step_price c = 23 * line_digits c + 207

-- how many words it still reads at most, to its end and in its close
unfoldable pub allowance : AdjacentWalk → ℕ
allowance w = step_price (contents_in w) * length (face_positions w.left) + pass_price (contents_in w) * length (face_positions w.whole)
