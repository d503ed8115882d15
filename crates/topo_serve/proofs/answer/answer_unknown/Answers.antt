use Rattle.std.proofs.Common.{arith, ap, length}
use Rattle.topo_serve.proofs.Cutting.{ask_short}
use Rattle.topo_serve.proofs.answer.answer_unknown.Goals as goal

pub gather_both-requires : goal.gather_both-requires
gather_both-requires g c = omega (arith, ask_short c.args.line.now c.requires, ap length c.without_return.ensures)

pub returns : goal.returns
returns g c = rw (← c.without_return.ensures) c.gather_both.ensures
