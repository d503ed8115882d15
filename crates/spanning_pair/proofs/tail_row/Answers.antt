use Rattle.spanning_pair.proofs.RotationDarts.{node_is}
use Rattle.spanning_pair.proofs.tail_row.Goals as goal

pub returns-clause-tail : goal.returns-clause-tail
returns-clause-tail c = node_is c.args.rotation.now c.requires.rotation c.args.dart c.node.result c.node.ensures.within c.node.ensures.node
