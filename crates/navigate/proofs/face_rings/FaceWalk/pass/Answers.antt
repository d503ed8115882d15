use Rattle.navigate.specs.OrbitWalk.{positions_left}
use Rattle.navigate.specs.FaceWalk.{face_positions}
use Rattle.navigate.proofs.FaceLaws.{face_end, face_next}
use Rattle.navigate.proofs.face_rings.FaceWalk.pass.Goals as goal

pub returns-in-Some-clause-next : goal.returns-in-Some-clause-next
unfolding face_positions
returns-in-Some-clause-next g c = face_next c.args.self.now c.in-Some.p (positions_left c.pass.new.self) _ c.in-Some.ensures.next c.settle.ensures.positions

pub returns-in-None-clause-next : goal.returns-in-None-clause-next
returns-in-None-clause-next g c = face_end c.args.self.now c.in-None.ensures.next

pub returns-in-None-clause-within : goal.returns-in-None-clause-within
returns-in-None-clause-within g c = face_end _ c.in-None.ensures.within
