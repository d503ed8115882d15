use Rattle.table_dump.proofs.Putting.{writes_failed}
use Rattle.table_dump.proofs.gathered.gather.Goals as goal

pub returns-in_err-make_room-clause-writes : goal.returns-in_err-make_room-clause-writes
returns-in_err-make_room-clause-writes g c = writes_failed _ _ _ _ _ _ _ c.from_residual.ensures.1 c.in_err-make_room.ensures.writes
