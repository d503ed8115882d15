use Rattle.std.proofs.Common.{◌∙◌, ap, sym, subst, ◌*◌, ◌<◌, length}
use Rattle.spanning_pair.specs.Rotations.{node_row}
use Rattle.spanning_pair.proofs.OtherDart.{reverse_below, same_reverse}
use Rattle.spanning_pair.proofs.RotationDarts.{node_is}
use Rattle.spanning_pair.proofs.head_row.Goals as goal

pub node-requires : goal.node-requires
node-requires c = subst (λ d. d < 2 * length c.args.rotation.now.edges) (same_reverse c.args.dart ∙ sym c.reversed.ensures) (reverse_below c.args.dart (length c.args.rotation.now.edges) c.requires.within)

pub returns-clause-head : goal.returns-clause-head
returns-clause-head c = node_is c.args.rotation.now c.requires.rotation c.reversed.result c.node.result c.node.ensures.within c.node.ensures.node ∙ ap (node_row c.args.rotation.now) (c.reversed.ensures ∙ sym (same_reverse c.args.dart))
