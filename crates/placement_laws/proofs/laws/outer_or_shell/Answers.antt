use Rattle.plane_model.specs.PlaneMap.{map_of}
use Rattle.placement_laws.proofs.Parts.{parts_of}
use Rattle.placement_laws.proofs.Placed.{placing_of}
use Rattle.placement_laws.proofs.Found.{either_found}
use Rattle.placement_laws.proofs.laws.outer_or_shell.Goals as goal

pub returns : goal.returns
returns c = λ t r h placed k. either_found (map_of t) (parts_of t h) (placing_of t h placed) r k
