-- What the texts of the five tables read as.
use Rattle.std.specs.Prelude.{◌≡◌, ℕ, List, Result, Ok, IsTrue}
use Rattle.topo_base.specs.declared.refusal.Table.{Table}
use Rattle.topo_base.specs.declared.refusal.Table.TheVariants as table
use Rattle.topo_base.specs.declared.refusal.Refusal.{Refusal}
use Rattle.plane_model.specs.Rows.{Rows}
use Rattle.plane_model.specs.PlaneMap.{Same, map_of}
use Rattle.plane_model.specs.InRange.{is_in_range}
use Rattle.plane_model.specs.Consistent.{is_consistent}
use Rattle.plane_model.specs.Reading.{◌>>=◌, node_rows, edge_rows, face_rows, region_rows, member_rows}
use Rattle.plane_model.specs.Texts.{table_text}

-- the tables of five texts, which are read in this order, or the first refusal
abbrev pub tables_read : (Table → List ℕ) → Result Rows Refusal
tables_read text = do
  nodes ← node_rows (text table.Node)
  edges ← edge_rows (text table.Edge)
  faces ← face_rows (text table.Face)
  regions ← region_rows (text table.Region)
  members ← member_rows (text table.Member)
  Ok (record { nodes = nodes; edges = edges; faces = faces; regions = regions; members = members })

-- the texts of the map of some tables read as tables that describe the same map, are in range, and are consistent
-- exactly where those are
pub record ReadsBack (t back : Rows) : Type 0 where
  pub reads : tables_read (table_text (map_of t)) ≡ Ok back
  pub same : Same back t
  pub in_range : IsTrue (is_in_range back)
  pub consistent : is_consistent back ≡ is_consistent t
