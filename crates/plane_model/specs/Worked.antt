-- Small maps whose answers and faults are computed by hand.
use Rattle.std.specs.Prelude.{ℕ, zero, suc, ◌+◌, ◌*◌, ℤ, pos, neg_ℤ, List, [], ◌∷◌, ◌++◌, map, flat_map, Option, Some, None, codes}
use Rattle.plane_model.specs.declared.rows.NodeRow.{NodeRow}
use Rattle.plane_model.specs.declared.rows.EdgeRow.{EdgeRow}
use Rattle.plane_model.specs.declared.rows.FaceRow.{FaceRow}
use Rattle.plane_model.specs.declared.rows.RegionRow.{RegionRow}
use Rattle.plane_model.specs.declared.rows.MemberRow.{MemberRow}
use Rattle.plane_model.specs.Rows.{Rows}

abbrev pub minus : ℕ → ℤ
minus n = neg_ℤ (pos n)

abbrev pub edge : ℕ → ℕ → ℕ → ℤ → ℤ → ℕ → ℕ → EdgeRow
edge id start end next_left next_right left_face right_face =
    record { id = id; start = start; end = end; next_left = next_left; next_right = next_right; left_face = left_face; right_face = right_face }

-- a node with edges
abbrev pub node : ℕ → NodeRow
node n = record { id = n; face = None }

-- an isolated node
abbrev pub isolated : ℕ → ℕ → NodeRow
isolated n f = record { id = n; face = Some f }

abbrev pub face : ℕ → FaceRow
face f = record { id = f }

abbrev pub region : ℕ → Option ℕ → RegionRow
region r p = record { id = r; parent = p }

abbrev pub member : ℕ → ℕ → MemberRow
member r f = record { region = r; face = f }

-- tables of nodes with edges, of edges and of faces
abbrev pub tables : List ℕ → List EdgeRow → List ℕ → Rows
tables nodes edges faces = record { nodes = map node nodes; edges = edges; faces = map face faces; regions = []; members = [] }

abbrev pub triangle_edges : List EdgeRow
triangle_edges = edge 1 1 2 (pos 2) (minus 3) 1 0 ∷ edge 2 2 3 (pos 3) (minus 1) 1 0 ∷ edge 3 3 1 (pos 1) (minus 2) 1 0 ∷ []

abbrev pub triangle : Rows
triangle = tables (1 ∷ 2 ∷ 3 ∷ []) triangle_edges (0 ∷ 1 ∷ [])

-- the triangle with a closed edge in its face, and in that one's face an isolated node
abbrev pub island : Rows
island =
    record {
      nodes = node 1 ∷ node 2 ∷ node 3 ∷ node 4 ∷ isolated 5 2 ∷ [];
      edges = triangle_edges ++ edge 4 4 4 (pos 4) (minus 4) 2 1 ∷ [];
      faces = face 0 ∷ face 1 ∷ face 2 ∷ [];
      regions = [];
      members = [];
    }

abbrev pub island_in_regions : Rows
island_in_regions = record island { regions = region 1 None ∷ region 2 (Some 1) ∷ []; members = member 2 1 ∷ member 1 2 ∷ [] }

abbrev pub two_triangles : Rows
two_triangles =
    tables (1 ∷ 2 ∷ 3 ∷ 4 ∷ 5 ∷ 6 ∷ [])
    (triangle_edges ++ edge 4 4 5 (pos 5) (minus 6) 2 0 ∷ edge 5 5 6 (pos 6) (minus 4) 2 0 ∷ edge 6 6 4 (pos 4) (minus 5) 2 0 ∷ [])
    (0 ∷ 1 ∷ 2 ∷ [])

-- two nodes with three edges between them
abbrev pub theta : Rows
theta = tables (1 ∷ 2 ∷ []) (edge 1 1 2 (minus 3) (pos 2) 0 1 ∷ edge 2 1 2 (minus 1) (pos 3) 1 2 ∷ edge 3 1 2 (minus 2) (pos 1) 2 0 ∷ []) (1 ∷ 2 ∷ [])

-- a closed edge round face 1
abbrev pub loop : ℕ → EdgeRow
loop e = edge e 1 1 (pos e) (minus e) 1 0

-- two closed edges that cross at their node
abbrev pub torus : Rows
torus = tables (1 ∷ []) (edge 1 1 1 (minus 2) (pos 2) 0 0 ∷ edge 2 1 1 (pos 1) (minus 1) 0 0 ∷ []) []

-- the numbers below n, rising
abbrev pub numbers_below : ℕ → List ℕ
numbers_below zero = []
numbers_below (suc n) = numbers_below n ++ n ∷ []

abbrev pub triangle_from : ℕ → List EdgeRow
triangle_from i =
    let a = 3 * i + 1 in let b = 3 * i + 2 in let c = 3 * i + 3 in
    edge a a b (pos b) (minus c) (i + 1) 0 ∷ edge b b c (pos c) (minus a) (i + 1) 0 ∷ edge c c a (pos a) (minus b) (i + 1) 0 ∷ []

-- k triangles side by side
abbrev pub triangles : ℕ → Rows
triangles k = tables (map (λ i. i + 1) (numbers_below (3 * k))) (flat_map triangle_from (numbers_below k)) (map (λ i. i + 1) (numbers_below k))

abbrev pub edge_header : List ℕ
edge_header = codes "edge_id,start_node,end_node,next_left_edge,next_right_edge,left_face,right_face\n"
