-- The names under which tables are written.
use Rattle.std.specs.Prelude.{◌≡◌, ℕ, List, string_bytes}
use Rattle.topo_cli.specs.Words.{node_table, edge_table, face_table, region_table, member_table}
use Rattle.topo_cli.specs.declared.dumping.TableNames.{TableNames}

-- they are those of a folder's tables
pub record AreTableNames (dir : List ℕ) (names : TableNames) : Type 0 where
  pub node : string_bytes names.node ≡ node_table dir
  pub edge : string_bytes names.edge ≡ edge_table dir
  pub face : string_bytes names.face ≡ face_table dir
  pub region : string_bytes names.region ≡ region_table dir
  pub member : string_bytes names.member ≡ member_table dir
