use Rattle.plane_model.specs.PlaneMap.{map_of}
use Rattle.placement_laws.proofs.Parts.{parts_of}
use Rattle.placement_laws.proofs.Placed.{placing_of, outer_order}
use Rattle.placement_laws.proofs.Found.{earlier_outer}
use Rattle.placement_laws.proofs.laws.outer_rings_in_order.Goals as goal

pub returns-clause-any : goal.returns-clause-any
returns-clause-any c = λ t place r h k. outer_order (map_of t) (parts_of t h) place r k

pub returns-clause-placed : goal.returns-clause-placed
returns-clause-placed c = λ t place r h placed k. earlier_outer (map_of t) (parts_of t h) (placing_of t h placed) place r k
