use Rattle.file_laws.specs.MapOfFile.{signed_at}
use Rattle.navigate.specs.OrbitWalk.{contents_in, positions_left, rest}
use Rattle.navigate.proofs.Walking.{over-exactly}
use Rattle.navigate.proofs.orbit_walk.OrbitWalk.is_over.Goals as goal

pub returns : goal.returns
unfolding rest
returns c = let w = c.args.self.now in over-exactly c.peek.result c.is_none.result (positions_left w) (signed_at (contents_in w)) c.is_none.ensures c.peek.ensures.next
