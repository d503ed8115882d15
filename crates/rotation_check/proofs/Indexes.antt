-- The row of a signed edge's edge.
use Rattle.std.proofs.Common.{ℤ, map, ◌≡◌, ℕ, List, sym, ap, ◌∙◌, Some}
use Rattle.std.specs.Prelude.{slice_get}
use Rattle.topo_base.specs.SignedEdge.{edge_of}
use Rattle.plane_model.specs.declared.rows.EdgeRow.{EdgeRow}
use Rattle.id_index.specs.declared.index.IdIndex.{IdIndex}
use Rattle.id_index.specs.Index.{IsIndex, row_in}
use Rattle.id_index.proofs.Indexes.{index_there}

pub row_at : (edges : List EdgeRow) (rows : IdIndex) (d : ℤ) (id row : ℕ) → IsIndex (map (λ e. e.id) edges) rows → id ≡ edge_of d → row_in rows id ≡ Some row → slice_get (map (λ e. e.id) edges) row ≡ Some (edge_of d)
row_at edges rows d id row index is found = index_there (map (λ e. e.id) edges) rows (edge_of d) row index (ap (row_in rows) (sym is) ∙ found)
