use Rattle.plane_model.specs.PlaneMap.{map_of}
use Rattle.plane_model.specs.Faces.{outer_rings}
use Rattle.placement_laws.proofs.Parts.{parts_of}
use Rattle.placement_laws.proofs.Placed.{placing_of}
use Rattle.placement_laws.proofs.Found.{outer_found, outer_ring_same, placing-many}
use Rattle.placement_laws.proofs.laws.outer_ring_of.Goals as goal

pub returns-clause-some : goal.returns-clause-some
returns-clause-some c = λ t d h placed k. outer_found (map_of t) (parts_of t h) (placing_of t h placed) d k

pub returns-clause-same : goal.returns-clause-same
returns-clause-same c = λ t d e h placed k on. outer_ring_same (map_of t) (parts_of t h) (placing_of t h placed) d e k on

pub returns-clause-many : goal.returns-clause-many
returns-clause-many c = λ t h placed. placing-many (map_of t) (parts_of t h) (outer_rings (map_of t)) (placing_of t h placed)
