use Rattle.plane_model.specs.PlaneMap.{map_of}
use Rattle.plane_model.proofs.SetLaws.{component-least}
use Rattle.plane_model.proofs.Closed.{component-closed}
use Rattle.plane_model.proofs.RotationOrbits.{whole_rotation}
use Rattle.plane_model.proofs.laws.component_is_least.Goals as goal

pub returns-clause-reversed : goal.returns-clause-reversed
returns-clause-reversed c = λ t d e rotation there on. (component-closed (map_of t) (whole_rotation t rotation) d there e on).0

pub returns-clause-turned : goal.returns-clause-turned
returns-clause-turned c = λ t d e rotation there on. (component-closed (map_of t) (whole_rotation t rotation) d there e on).1

pub returns-clause-least : goal.returns-clause-least
returns-clause-least c = λ m s back turned d h. component-least m s (λ e k. (back e k, turned e k)) d h
