use Rattle.region_tree.specs.Places.{AreFirstParentPlaces}
use Rattle.region_tree.proofs.parents.parent_places.Given as goal

abbrev pub invariant-loop-row : goal.invariant-loop-row
invariant-loop-row l = AreFirstParentPlaces l.ids l.rows l.row-index l.parents.items
