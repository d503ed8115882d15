use Rattle.topo_serve.proofs.Answering.{two_numbers, written_known, written_unknown}
use Rattle.topo_serve.proofs.answer.answer_sides.Goals as goal

pub returns-in-Some-clause-writes : goal.returns-in-Some-clause-writes
returns-in-Some-clause-writes g c = written_known _ _ _ _ _ _ c.in-Some.ensures.known (two_numbers _ _ _ _ c.in-Some.ensures.sides.0 c.in-Some.ensures.sides.1) c.list_numbers.ensures

pub returns-in-None-clause-writes : goal.returns-in-None-clause-writes
returns-in-None-clause-writes g c = written_unknown _ _ _ _ _ c.in-None.ensures.known c.gather.ensures
