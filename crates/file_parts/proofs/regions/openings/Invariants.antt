use Rattle.std.proofs.Common.{◌≡◌, ◌≤◌, map}
use Rattle.std.specs.List.{range_with_len}
use Rattle.region_tree.specs.Nesting.{opening}
use Rattle.region_tree.specs.RegionView.{regions_of}
use Rattle.file_parts.proofs.regions.openings.Given as goal

abbrev pub invariant-loop-region : goal.invariant-loop-region
invariant-loop-region g l = record { openings : l.openings.items ≡ map (opening (regions_of l.fn.regions).bits) (range_with_len 0 l.region); grows : l.fn.steps ≤ l.steps }
