-- What a shortest walk over faces still gives.
use Rattle.std.specs.Prelude.{ℕ, ◌+◌, ◌*◌, Bool, if◌then◌else◌, List, drop, length}
use Rattle.plane_model.specs.Hops.{hops}
use Rattle.file_laws.specs.Contents.{Contents}
use Rattle.file_laws.specs.MapOfFile.{face_at_place}
use Rattle.pemb_file.specs.Served.{contents_of_view}
use Rattle.navigate.specs.Bound.{map_with}
use Rattle.face_hops.specs.Prices.{rounds_price, name_price}
use Rattle.face_hops.specs.declared.walk.HopWalk.{HopWalk}

-- the contents that it goes over
abbrev pub contents_in : HopWalk → Contents
contents_in w = contents_of_view w.served

-- the way from the face where it stands to its end
unfoldable pub way : HopWalk → List ℕ
way w = let c = contents_in w in hops (map_with c) (face_at_place c w.place) (face_at_place c w.to)

-- the faces that it still gives: where it stands too, unless it gave that
unfoldable pub rest : HopWalk → List ℕ
rest w = drop (if w.given then 1 else 0) (way w)

-- whether it gave a face
abbrev pub is_begun : HopWalk → Bool
is_begun w = w.given

-- how many moves the whole walk has
abbrev pub moves_of : HopWalk → ℕ
moves_of w = w.moves

-- how many words it still reads at most, to the end of its list
unfoldable pub allowance : HopWalk → ℕ
allowance w = rounds_price (contents_in w) (way w) + name_price (contents_in w) * length (rest w)
