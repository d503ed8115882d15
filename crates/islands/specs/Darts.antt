-- Darts that stand for signed edges.
use Rattle.std.specs.Prelude.{◌≡◌, ℕ, ◌*◌, ◌<◌, ℤ, List, length, map, slice_index}
use Rattle.plane_model.specs.declared.rows.EdgeRow.{EdgeRow}
use Rattle.rotation_check.specs.Darts.{signed_edge}

-- darts of these edges whose signed edges are ds
pub record AreDartsOf (edges : List EdgeRow) (ds : List ℤ) (darts : List ℕ) : Type 0 where
  pub within : (k : ℕ) → k < length darts → slice_index darts k < 2 * length edges
  pub are : map (signed_edge edges) darts ≡ ds
