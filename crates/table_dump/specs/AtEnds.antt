-- What stands at the ends of edges.
use Rattle.std.specs.Prelude.{ℕ, ◌≡◌, ◌<◌, ◌*◌, true, false, List, length, unwrap_or}
use Rattle.code_laws.specs.Code.{mate, next}
use Rattle.id_names.specs.Names.{number_of}
use Rattle.file_laws.specs.Contents.{Contents}
use Rattle.file_laws.specs.MapOfFile.{face_at, forward_position, node_at, signed_at}
use Rattle.table_dump.specs.Ends.{end_at, face_in, next_in, node_in}
use Rattle.table_dump.specs.ByRank.{id_at_rank}

-- an end has what stands at a position
pub record IsEndOf (c : Contents) (ends : List ℕ) (e p : ℕ) : Type 0 where
  pub node : node_in ends e ≡ node_at c p
  pub face : face_in ends e ≡ face_at c p
  pub next : next_in ends e ≡ signed_at c (next c.code p)

-- the number of the edge at a place in the order of ids
abbrev pub edge_number : Contents → ℕ → ℕ
edge_number c place = unwrap_or (number_of c.edges (id_at_rank c.edges place)) 0

-- both ends of each edge have what stands at its positions
pub record AreEnds (c : Contents) (ends : List ℕ) : Type 0 where
  pub room : length ends ≡ 6 * length c.edges
  pub forward : (place : ℕ) → place < length c.edges → IsEndOf c ends (end_at place true) (forward_position c (edge_number c place))
  pub backward : (place : ℕ) → place < length c.edges → IsEndOf c ends (end_at place false) (mate c.code (forward_position c (edge_number c place)))
