-- What is read ahead of the ids of some contents.
use Rattle.std.specs.Prelude.{◌≡◌, take}
use Rattle.scratch_region.specs.Numbers.{numbers_of}
use Rattle.file_laws.specs.Contents.{Contents}
use Rattle.file_laws.specs.MapOfFile.{joined_count}
use Rattle.table_dump.specs.declared.ids.Ids.{Ids}

-- the ids of the nodes that have edges, of all edges and of all faces, each by number
pub record AreIds (c : Contents) (ids : Ids) : Type 0 where
  pub nodes : numbers_of ids.nodes ≡ take (joined_count c) c.nodes
  pub edges : numbers_of ids.edges ≡ c.edges
  pub faces : numbers_of ids.faces ≡ c.faces
