use Rattle.std.proofs.Common.{◌≡◌, ◌∷◌, map, take}
use Rattle.map_build.specs.Placed.{member_region}
use Rattle.map_build.proofs.places.FacePlaces.member_regions.Given as goal

abbrev pub invariant-loop-member : goal.invariant-loop-member
invariant-loop-member l = l.regions.items ≡ map (member_region (take l.member-index l.members)) (0 ∷ l.self.faces.now)
