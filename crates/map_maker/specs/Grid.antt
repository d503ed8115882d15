-- The square grid of size n: nodes (r, c) with r and c from 0 to n, joined to their neighbours, with closed edges and
-- isolated nodes in some of its cells.
use Rattle.std.specs.Prelude.{ℕ, ◌+◌, ◌-◌, ◌*◌, ◌/◌, ◌%◌, ◌<◌, ℤ, pos, neg_ℤ, Bool, nat_lt, if◌then◌else◌, List, [], ◌++◌, map, Some, None}
use Rattle.std.specs.List.{range_with_len}
use Rattle.plane_model.specs.Rows.{Rows}
use Rattle.plane_model.specs.declared.rows.NodeRow.{NodeRow}
use Rattle.plane_model.specs.declared.rows.EdgeRow.{EdgeRow}
use Rattle.plane_model.specs.declared.rows.FaceRow.{FaceRow}
use Rattle.map_maker.specs.declared.direction.Direction.{Direction}
use Rattle.map_maker.specs.declared.direction.Direction.TheVariants.{North, East, South, West}
use Rattle.map_maker.specs.declared.place.Place.{Place}

-- the direction after one, round a node
abbrev pub after : Direction → Direction
after North = East
after East = South
after South = West
after West = North

abbrev pub opposite : Direction → Direction
opposite North = South
opposite East = West
opposite South = North
opposite West = East

-- the neighbours of a node; rows grow to the north and columns to the east
abbrev pub north_of : Place → Place
north_of p = record { row = p.row + 1; column = p.column }

abbrev pub east_of : Place → Place
east_of p = record { row = p.row; column = p.column + 1 }

abbrev pub south_of : Place → Place
south_of p = record { row = p.row - 1; column = p.column }

abbrev pub west_of : Place → Place
west_of p = record { row = p.row; column = p.column - 1 }

-- whether an edge of the grid leaves a node in a direction
abbrev pub has_edge : ℕ → Place → Direction → Bool
has_edge n p North = nat_lt p.row n
has_edge n p East = nat_lt p.column n
has_edge n p South = nat_lt 0 p.row
has_edge n p West = nat_lt 0 p.column

-- the ids of a node, of its edges to the east and to the north, and of the cell between these
abbrev pub node_id : ℕ → Place → ℕ
node_id n p = 1 + p.row * (n + 1) + p.column

abbrev pub east_id : ℕ → Place → ℕ
east_id n p = 1 + p.row * n + p.column

abbrev pub north_id : ℕ → Place → ℕ
north_id n p = 1 + n * (n + 1) + p.row * (n + 1) + p.column

abbrev pub cell_id : ℕ → Place → ℕ
cell_id n p = 1 + p.row * n + p.column

-- the signed edge that leaves a node in a direction
abbrev pub leaving : ℕ → Place → Direction → ℤ
leaving n p North = pos (north_id n p)
leaving n p East = pos (east_id n p)
leaving n p South = neg_ℤ (pos (north_id n (south_of p)))
leaving n p West = neg_ℤ (pos (east_id n (west_of p)))

-- the first direction after one in which a node has an edge, that one itself last
abbrev pub first_after : ℕ → Place → Direction → Direction
first_after n p d =
    if has_edge n p (after d) then after d
    else if has_edge n p (after (after d)) then after (after d)
    else if has_edge n p (after (after (after d))) then after (after (after d))
    else d

-- the signed edge that follows one that comes to p in a direction: the next one round p after the way back
abbrev pub following : ℕ → Place → Direction → ℤ
following n p d = leaving n p (first_after n p (opposite d))

-- a node is on so many rows and columns
pub record IsOn (rows columns : ℕ) (p : Place) : Type 0 where
  pub row : p.row < rows
  pub column : p.column < columns

-- the edges from a node to the east and to the north: the cells beside them are their faces, or face 0 where there is
-- none
abbrev pub east_edge : ℕ → Place → EdgeRow
east_edge n p =
    record {
      id = east_id n p;
      start = node_id n p;
      end = node_id n (east_of p);
      next_left = following n (east_of p) East;
      next_right = following n p West;
      left_face = if nat_lt p.row n then cell_id n p else 0;
      right_face = if nat_lt 0 p.row then cell_id n (south_of p) else 0;
    }

abbrev pub north_edge : ℕ → Place → EdgeRow
north_edge n p =
    record {
      id = north_id n p;
      start = node_id n p;
      end = node_id n (north_of p);
      next_left = following n (north_of p) North;
      next_right = following n p South;
      left_face = if nat_lt 0 p.column then cell_id n (west_of p) else 0;
      right_face = if nat_lt p.column n then cell_id n p else 0;
    }

-- how many closed edges and isolated nodes there are: one in each seventh, and one in each eleventh cell
abbrev pub closed_count : ℕ → ℕ
closed_count n = n * n / 7

abbrev pub isolated_count : ℕ → ℕ
isolated_count n = n * n / 11

-- closed edge q at a node of its own, its own next on both sides
abbrev pub closed_edge : ℕ → ℕ → EdgeRow
closed_edge n q =
    let id = 2 * n * (n + 1) + q in
    let node = (n + 1) * (n + 1) + q in
    record { id = id; start = node; end = node; next_left = pos id; next_right = neg_ℤ (pos id); left_face = n * n + q; right_face = 7 * q }

abbrev pub grid_node : ℕ → Place → NodeRow
grid_node n p = record { id = node_id n p; face = None }

abbrev pub closed_node : ℕ → ℕ → NodeRow
closed_node n q = record { id = (n + 1) * (n + 1) + q; face = None }

-- isolated node q in its cell
abbrev pub isolated_node : ℕ → ℕ → NodeRow
isolated_node n q = record { id = (n + 1) * (n + 1) + closed_count n + q; face = Some (11 * q) }

abbrev pub cell : ℕ → FaceRow
cell f = record { id = f }

-- the nodes of so many rows and columns, row by row from the south, each from the west
abbrev pub place_of : ℕ → ℕ → Place
place_of columns i = record { row = i / columns; column = i % columns }

abbrev pub places : ℕ → ℕ → List Place
places rows columns = map (place_of columns) (range_with_len 0 (rows * columns))

-- the tables, rising by id
abbrev pub grid_of : ℕ → Rows
grid_of n =
    record {
      nodes = map (grid_node n) (places (n + 1) (n + 1)) ++ map (closed_node n) (range_with_len 1 (closed_count n)) ++ map (isolated_node n) (range_with_len 1 (isolated_count n));
      edges = map (east_edge n) (places (n + 1) n) ++ map (north_edge n) (places n (n + 1)) ++ map (closed_edge n) (range_with_len 1 (closed_count n));
      faces = map cell (range_with_len 1 (n * n + closed_count n));
      regions = [];
      members = [];
    }
