use Rattle.region_tree.specs.MemberPlaces.{AreFirstMemberPlaces}
use Rattle.region_tree.proofs.members.member_places.Given as goal

abbrev pub invariant-loop-row : goal.invariant-loop-row
invariant-loop-row l = AreFirstMemberPlaces l.ids l.numbers l.rows l.row-index l.places.items
