use Rattle.topo_serve.proofs.answer.answer_items.Goals as goal

pub returns-in-Common-clause-writes : goal.returns-in-Common-clause-writes
returns-in-Common-clause-writes g c = rw c.in-Common.is c.answer_common.ensures.writes

pub returns-in-Common-clause-least : goal.returns-in-Common-clause-least
returns-in-Common-clause-least g c = rw c.in-Common.is c.answer_common.ensures.least

pub returns-in-Common-clause-paid : goal.returns-in-Common-clause-paid
returns-in-Common-clause-paid g c = rw c.in-Common.is c.answer_common.ensures.paid
