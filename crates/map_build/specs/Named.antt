-- The ids by number of what a walk comes to.
use Rattle.std.specs.Prelude.{◌≡◌, ℕ, ◌<◌, ℤ, false, IsTrue, length, slice_index, slice_index_or}
use Rattle.topo_base.specs.SignedEdge.{edge_of as edge_id, is_forward}
use Rattle.plane_model.specs.Rows.{Rows}
use Rattle.plane_model.specs.PlaneMap.{map_of, origin, side}
use Rattle.code_laws.specs.Code.{is_first}
use Rattle.code_laws.specs.Numbers.{edge_of, node_of, ring_of, edge_count, node_count, shell_count}
use Rattle.code_laws.specs.declared.ring_number.RingNumber.TheVariants.{Shell}
use Rattle.map_build.specs.Made.{walked_at}
use Rattle.map_build.specs.Tours.{code_of_tour, edges_of_tour}
use Rattle.map_build.specs.declared.checked.Walked.{Walked}
use Rattle.map_build.specs.declared.names.Names.{Names}

-- the signed edge at a position of the walk of tables
abbrev pub edge_at : Rows → Walked → ℕ → ℤ
edge_at t w p = walked_at (edges_of_tour t.edges w.tour) p

-- what stands at each position, by its number
pub record AreNamesOf (t : Rows) (w : Walked) (n : Names) : Type 0 where
  pub edges_len : length n.edges.items ≡ edge_count (code_of_tour w.tour)
  pub edges : (p : ℕ) → p < length w.tour.tree.items → slice_index n.edges.items (edge_of (code_of_tour w.tour) p) ≡ edge_id (edge_at t w p)
  pub forward_len : length n.forward.items ≡ edge_count (code_of_tour w.tour)
  pub forward : (p : ℕ) → p < length w.tour.tree.items → IsTrue (is_first (code_of_tour w.tour) p)
      → slice_index_or n.forward.items (edge_of (code_of_tour w.tour) p) false ≡ is_forward (edge_at t w p)
  pub nodes_len : length n.nodes.items ≡ node_count (code_of_tour w.tour)
  pub nodes : (p : ℕ) → p < length w.tour.tree.items → slice_index n.nodes.items (node_of (code_of_tour w.tour) p) ≡ origin (map_of t) (edge_at t w p)
  pub faces_len : length n.faces.items ≡ shell_count (code_of_tour w.tour)
  pub faces : (p s : ℕ) → p < length w.tour.tree.items → ring_of (code_of_tour w.tour) p ≡ Shell s → slice_index n.faces.items s ≡ side (map_of t) (edge_at t w p)
