use Rattle.std.proofs.Common.{◌≡◌, ◌≤◌, take}
use Rattle.region_tree.specs.RegionView.{regions_of}
use Rattle.file_parts.proofs.regions.region_ids.Given as goal

abbrev pub invariant-loop-region : goal.invariant-loop-region
invariant-loop-region g l = record { ids : l.ids.items ≡ take l.region (regions_of l.fn.regions).ids; grows : l.fn.steps ≤ l.steps }
