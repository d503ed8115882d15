use Rattle.std.proofs.Common.{rules, append_assoc}
use Rattle.topo_cli.proofs.counting.line_of_number.Goals as goal

pub returns : goal.returns
returns c = search (rules, append_assoc)
