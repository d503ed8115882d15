-- What a lawful file says.
use Rattle.std.specs.Prelude.{◌≡◌, length}
use Rattle.file_laws.specs.Contents.{Contents, component_count}
use Rattle.code_laws.specs.Numbers.{tree_edges}
use Rattle.region_tree.specs.RegionView.{Regions}
use Rattle.pemb_file.specs.OpenFile.{contents_of_file}
use Rattle.pemb_file.specs.declared.counts.Counts.{Counts}
use Rattle.pemb_file.specs.declared.served.Served.{Served}

-- what the sections of the file hold
abbrev pub contents_of_view : Served → Contents
contents_of_view s = contents_of_file s.file.now

-- the regions of these contents, by number
abbrev pub regions_in : Contents → Regions
regions_in c = record { bits = c.region_bits; ids = c.regions; members = c.members }

-- the counts of these contents
pub record AreCounts (c : Contents) (counts : Counts) : Type 0 where
  pub nodes : counts.nodes ≡ length c.nodes
  pub edges : counts.edges ≡ length c.edges
  pub tree_edges : counts.tree_edges ≡ tree_edges c.code
  pub faces : counts.faces ≡ length c.faces
  pub components : counts.components ≡ component_count c
  pub isolated : counts.isolated ≡ length c.isolated
  pub regions : counts.regions ≡ length c.regions
