use Rattle.std.proofs.Common.{◌≡◌, map, take}
use Rattle.map_build.specs.Made.{place_of}
use Rattle.map_build.proofs.places.FacePlaces.of_components.Given as goal

abbrev pub invariant-loop-face : goal.invariant-loop-face
invariant-loop-face l = l.places.items ≡ map (place_of l.self.faces.now) (take l.face-index l.containing)
