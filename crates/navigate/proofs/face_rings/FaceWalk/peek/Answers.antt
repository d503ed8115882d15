use Rattle.std.specs.Prelude.{drop}
use Rattle.navigate.specs.OrbitWalk.{positions_left}
use Rattle.navigate.proofs.FaceLaws.{face_end, face_peek}
use Rattle.navigate.proofs.face_rings.FaceWalk.peek.Goals as goal

pub returns-in-Some-clause-next : goal.returns-in-Some-clause-next
returns-in-Some-clause-next c = face_peek c.args.self.now c.in-Some.p (drop 1 (positions_left c.args.self.now.ring)) c.in-Some.ensures.next

pub returns-in-None-clause-next : goal.returns-in-None-clause-next
returns-in-None-clause-next c = face_end c.args.self.now c.in-None.ensures.next

pub returns-in-None-clause-within : goal.returns-in-None-clause-within
returns-in-None-clause-within c = face_end c.args.self.now c.in-None.ensures.next
