use Rattle.face_hops.proofs.Ways.{nearest}
use Rattle.face_hops.proofs.laws.distance_is_least.Goals as goal

pub returns-clause-path : goal.returns-clause-path
returns-clause-path c = λ m f g n e. (nearest m f g n e).here

pub returns-clause-least : goal.returns-clause-least
returns-clause-least c = λ m f g n k e l. (nearest m f g n e).before k l
