use Rattle.file_laws.specs.MapOfFile.{signed_at}
use Rattle.navigate.specs.FaceWalk.{contents_in, face_positions, rest}
use Rattle.navigate.proofs.Walking.{over-exactly}
use Rattle.navigate.proofs.face_rings.FaceWalk.is_over.Goals as goal

pub returns : goal.returns
unfolding rest
returns c = let w = c.args.self.now in over-exactly c.peek.result c.is_none.result (face_positions w) (signed_at (contents_in w)) c.is_none.ensures c.peek.ensures.next
