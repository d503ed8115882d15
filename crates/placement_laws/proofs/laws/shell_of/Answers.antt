use Rattle.plane_model.specs.PlaneMap.{map_of}
use Rattle.placement_laws.proofs.Placed.{placing_of}
use Rattle.placement_laws.proofs.Found.{shell_found, shell_none}
use Rattle.placement_laws.proofs.Tables.{face_0_none}
use Rattle.placement_laws.proofs.laws.shell_of.Goals as goal

pub returns-clause-some : goal.returns-clause-some
returns-clause-some c = λ t f h placed k. shell_found (map_of t) (placing_of t h placed) f k

pub returns-clause-none : goal.returns-clause-none
returns-clause-none c = λ t h placed. shell_none (map_of t) (placing_of t h placed) 0 (face_0_none t)
