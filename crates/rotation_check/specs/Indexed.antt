-- The rows of tables by their ids.
use Rattle.std.specs.Prelude.{map}
use Rattle.id_index.specs.Index.{IsIndex}
use Rattle.rotation_check.specs.declared.missing_nodes.NodeIndex.{NodeIndex}
use Rattle.rotation_check.specs.declared.missing_edges.EdgeIndex.{EdgeIndex}
use Rattle.rotation_check.specs.declared.missing_faces.FaceIndex.{FaceIndex}

-- the rows of nodes
abbrev pub IsNodeIndex : NodeIndex → Type 0
IsNodeIndex index = IsIndex (map (λ n. n.id) index.tables.now.nodes) index.rows

-- the rows of edges
abbrev pub IsEdgeIndex : EdgeIndex → Type 0
IsEdgeIndex index = IsIndex (map (λ e. e.id) index.tables.now.edges) index.rows

-- the rows of faces
abbrev pub IsFaceIndex : FaceIndex → Type 0
IsFaceIndex index = IsIndex (map (λ f. f.id) index.tables.now.faces.items) index.rows
