use Rattle.region_tree.specs.RegionView.{regions_of}
use Rattle.file_parts.proofs.OpeningPlaces.{HaveOpened}
use Rattle.file_parts.proofs.regions.region_bits.Given as goal

abbrev pub invariant-loop-place : goal.invariant-loop-place
invariant-loop-place g l = HaveOpened (regions_of l.fn.regions).bits l.place-index l.bits.items
