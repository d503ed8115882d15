-- What a walk along the rings of a face still gives, and what it may still read.
use Rattle.std.specs.Prelude.{ℕ, ◌+◌, ◌*◌, ℤ, List, map, length, ◌++◌}
use Rattle.file_laws.specs.Contents.{Contents}
use Rattle.file_laws.specs.MapOfFile.{signed_at}
use Rattle.pemb_file.specs.Served.{contents_of_view}
use Rattle.navigate.specs.Bound.{line_digits}
use Rattle.navigate.specs.Holes.{components_between, outer_positions}
use Rattle.navigate.specs.OrbitWalk.{positions_left}
use Rattle.navigate.specs.declared.face_rings.FaceWalk.{FaceWalk}

-- the contents that it goes over
abbrev pub contents_in : FaceWalk → Contents
contents_in w = contents_of_view w.served

-- the positions that it still goes through
unfoldable pub face_positions : FaceWalk → List ℕ
face_positions w = positions_left w.ring ++ outer_positions (contents_in w) (components_between (contents_in w) w.hole w.end)

-- the signed edges that it still gives
unfoldable pub rest : FaceWalk → List ℤ
rest w = map (signed_at (contents_in w)) (face_positions w)

-- what going on, with the next hole, and reading a signed edge cost at most
abbrev pub price : Contents → ℕ
price c = 15 * line_digits c + 138

-- how many words it still reads at most
unfoldable pub allowance : FaceWalk → ℕ
allowance w = price (contents_in w) * length (rest w)

-- what looking across an edge and going on, with the next hole, cost at most
abbrev pub pass_price : Contents → ℕ
pass_price c = 20 * line_digits c + 187
