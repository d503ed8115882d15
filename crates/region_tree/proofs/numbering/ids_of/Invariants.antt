use Rattle.std.proofs.Common.{◌≡◌, map, take, slice_index}
use Rattle.region_tree.proofs.numbering.ids_of.Given as goal

abbrev pub invariant-loop-place : goal.invariant-loop-place
invariant-loop-place l = l.found.items ≡ map (slice_index l.ids) (take l.place-index l.order)
