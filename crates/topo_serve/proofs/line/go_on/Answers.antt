use Rattle.std.proofs.Common.{rules}
use Rattle.topo_serve.proofs.Cutting.{cut_room}
use Rattle.topo_serve.proofs.line.go_on.Goals as goal

pub returns : goal.returns
returns c = search (rules, cut_room c.args.line.now.items c.args.bytes.now c.remaining_capacity.result)
