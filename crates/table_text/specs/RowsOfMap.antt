-- The rows of a map's tables, rising by id, members by face: what the text of each table says, line by line.
use Rattle.std.specs.Prelude.{ℕ, pos, map, unwrap_or, List, IsTrue, IsPermutation}
use Rattle.plane_model.specs.declared.rows.NodeRow.{NodeRow}
use Rattle.plane_model.specs.declared.rows.EdgeRow.{EdgeRow}
use Rattle.plane_model.specs.declared.rows.FaceRow.{FaceRow}
use Rattle.plane_model.specs.declared.rows.RegionRow.{RegionRow}
use Rattle.plane_model.specs.declared.rows.MemberRow.{MemberRow}
use Rattle.plane_model.specs.Rows.{Rows}
use Rattle.plane_model.specs.PlaneMap.{PlaneMap, row_of}
use Rattle.plane_model.specs.Rotation.{node_face}
use Rattle.plane_model.specs.Regions.{parent}
use Rattle.plane_model.specs.Orders.{is_strictly_rising}

abbrev pub node_of : PlaneMap → ℕ → NodeRow
node_of m n = record { id = n; face = node_face m n }

abbrev pub edge_of : PlaneMap → ℕ → EdgeRow
edge_of m e = row_of m (pos e)

abbrev pub face_of : ℕ → FaceRow
face_of f = record { id = f }

abbrev pub region_of : PlaneMap → ℕ → RegionRow
region_of m r = record { id = r; parent = parent m r }

abbrev pub member_of : PlaneMap → ℕ → MemberRow
member_of m f = record { region = unwrap_or (m.members.at f) 0; face = f }

-- the rows that stand for a map: no row for face 0, and each other id once, rising
abbrev pub rows_of_map : PlaneMap → Rows
rows_of_map m =
    record {
      nodes = map (node_of m) m.nodes.keys;
      edges = map (edge_of m) m.edges.keys;
      faces = map face_of m.faces;
      regions = map (region_of m) m.regions.keys;
      members = map (member_of m) m.members.keys;
    }

-- the same rows in rising order of a key, of which none stands twice
pub record AreSorted {R : Type 0} (key : R → ℕ) (rows sorted : List R) : Type 0 where
  pub permutation : IsPermutation rows sorted
  pub rising : IsTrue (is_strictly_rising (map key sorted))
