use Rattle.face_hops.proofs.Tables.{path_some, way_long, way_apart, beside_both}
use Rattle.face_hops.proofs.laws.paths_between_faces.Goals as goal

pub returns-clause-some : goal.returns-clause-some
returns-clause-some c = path_some

pub returns-clause-long : goal.returns-clause-long
returns-clause-long c = way_long

pub returns-clause-apart : goal.returns-clause-apart
returns-clause-apart c = way_apart

pub returns-clause-mutual : goal.returns-clause-mutual
returns-clause-mutual c = beside_both
