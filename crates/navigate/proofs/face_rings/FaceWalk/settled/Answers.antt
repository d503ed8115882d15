use Rattle.navigate.specs.FaceWalk.{face_positions}
use Rattle.navigate.proofs.face_rings.FaceWalk.settled.Goals as goal

pub returns-clause-positions : goal.returns-clause-positions
unfolding face_positions
returns-clause-positions g c = c.settle.ensures.positions
