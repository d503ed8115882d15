-- What is read ahead for a table, and how many words it takes.
use Rattle.std.specs.Prelude.{ℕ, ◌+◌, ◌*◌, List, length, ⊤}
use Rattle.topo_base.specs.declared.refusal.Table.{Table}
use Rattle.topo_base.specs.declared.refusal.Table.TheVariants as table
use Rattle.file_laws.specs.Contents.{Contents}
use Rattle.table_dump.specs.AtEnds.{AreEnds}
use Rattle.table_dump.specs.ByRank.{AreByRank}

-- how many words a dump is lent: six for the ends of each edge and one for the tour, and one for each id
abbrev pub words_to_dump : Contents → ℕ
words_to_dump c = 8 * length c.edges + length c.nodes + length c.faces

-- how many numbers are read ahead for a table
abbrev pub ahead_count : Contents → Table → ℕ
ahead_count c table.Node = length c.nodes
ahead_count c table.Edge = 6 * length c.edges
ahead_count c table.Face = 0
ahead_count c table.Region = 0
ahead_count c table.Member = length c.faces

-- the numbers of nodes or of faces by place, or the ends of edges
abbrev pub IsAhead : Contents → Table → List ℕ → Type 0
IsAhead c table.Node ahead = AreByRank c.nodes ahead
IsAhead c table.Edge ahead = AreEnds c ahead
IsAhead c table.Face ahead = ⊤
IsAhead c table.Region ahead = ⊤
IsAhead c table.Member ahead = AreByRank c.faces ahead
