use Rattle.topo_serve.proofs.Ending.{first_feed}
use Rattle.topo_serve.proofs.line.line_end.Goals as goal

pub returns : goal.returns
returns c = first_feed c.args.bytes.now c.memchr.result c.memchr.ensures
