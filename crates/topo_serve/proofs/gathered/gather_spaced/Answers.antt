use Rattle.topo_serve.proofs.Writing.{writes_failed}
use Rattle.topo_serve.proofs.gathered.gather_spaced.Goals as goal

pub returns-in_err-put_out : goal.returns-in_err-put_out
returns-in_err-put_out g c = writes_failed _ _ _ _ _ _ _ c.from_residual.ensures.1 c.in_err-put_out.ensures.writes
