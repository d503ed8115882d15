use Rattle.ports.proofs.Results.{gains_front, gains_nothing}
use Rattle.ports.proofs.memory_sink.MemorySinkSink.put.Goals as goal

pub returns-then-next_fails-clause-prefix : goal.returns-then-next_fails-clause-prefix
returns-then-next_fails-clause-prefix c = gains_front _ _ _ _ _ c.append.ensures.appended c.append.ensures.kept

pub returns-clause-prefix : goal.returns-clause-prefix
returns-clause-prefix c = gains_nothing _ _ _ _ c.append-2.ensures.kept
