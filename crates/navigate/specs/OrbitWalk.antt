-- What a walk round a node or a ring still gives, and what it may still read.
use Rattle.std.specs.Prelude.{ℕ, ◌+◌, ◌*◌, ℤ, List, map, length}
use Rattle.code_laws.specs.Code.{step}
use Rattle.code_laws.specs.Orbits.{walk}
use Rattle.id_names.specs.RisingNames.{RisingNames}
use Rattle.id_names.specs.Views.{names_in}
use Rattle.file_laws.specs.Contents.{Contents}
use Rattle.file_laws.specs.MapOfFile.{signed_at}
use Rattle.pemb_file.specs.Served.{contents_of_view}
use Rattle.navigate.specs.Bound.{line_digits}
use Rattle.navigate.specs.declared.orbit_walk.OrbitWalk.{OrbitWalk}

-- the contents that it goes over
abbrev pub contents_in : OrbitWalk → Contents
contents_in w = contents_of_view w.served

-- the names of the edges, among which it finds ranks
abbrev pub edge_names : OrbitWalk → RisingNames
edge_names w = names_in w.edges.now

-- the positions that it still goes through
unfoldable pub positions_left : OrbitWalk → List ℕ
positions_left w = walk w.left (step (contents_in w).code w.kind) w.first w.at

-- the signed edges that it still gives
unfoldable pub rest : OrbitWalk → List ℤ
rest w = map (signed_at (contents_in w)) (positions_left w)

-- what finding the rank of a signed edge and going on cost at most
abbrev pub rank_price : Contents → ℕ
rank_price c = 12 * line_digits c + 118

-- what finding that, the face across and going on cost at most
abbrev pub across_price : Contents → ℕ
across_price c = 15 * line_digits c + 155

-- what reading a signed edge and going on cost at most
abbrev pub price : Contents → ℕ
price c = 15 * line_digits c + 136

-- how many words it still reads at most
unfoldable pub allowance : OrbitWalk → ℕ
allowance w = price (contents_in w) * length (rest w)
