-- What a view of regions stands for.
use Rattle.std.specs.Prelude.{ℕ, Bool, List}
use Rattle.bit_words.specs.PackedView.{fields_of}
use Rattle.parens.specs.ParenView.{parens_of}
use Rattle.id_names.specs.Views.{ids_of}
use Rattle.region_tree.specs.declared.view.RegionView.{RegionView}

pub record Regions : Type 0 where
  -- the regions as parentheses in preorder
  pub bits : List Bool
  -- the id of each region, by number
  pub ids : List ℕ
  -- for each face by number: 0 for no region, and else 1 + the number of its region
  pub members : List ℕ

abbrev pub regions_of : RegionView → Regions
regions_of v = record { bits = parens_of v.tree; ids = ids_of v.names; members = fields_of v.members }
