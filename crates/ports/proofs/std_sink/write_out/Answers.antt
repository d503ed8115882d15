use Rattle.ports.proofs.Written.{written_on}
use Rattle.ports.proofs.std_sink.write_out.Goals as goal

pub loop-rest-preserved : goal.loop-rest-preserved
loop-rest-preserved g c = written_on _ _ _ _ _ _ c.loop-rest.invariant c.in-Ok.ensures.bytes
