use Rattle.std.proofs.Common.{◌∙◌, sym, ap}
use Rattle.spanning_pair.specs.Rotations.{next_dart}
use Rattle.spanning_pair.specs.Walks.{after}
use Rattle.spanning_pair.proofs.RotationDarts.{next_is, turn_is}
use Rattle.spanning_pair.proofs.dart_after.Goals as goal

pub returns-then-is_tree : goal.returns-then-is_tree
returns-then-is_tree c = next_is c.args.rotation.now c.requires.rotation c.args.dart c.next.result c.next.ensures.within c.next.ensures.next ∙ ap (λ t. after (next_dart c.args.rotation.now) t c.args.dart) (sym c.if-is_tree.true)

pub returns-else-is_tree : goal.returns-else-is_tree
returns-else-is_tree c = turn_is c.args.rotation.now c.requires.rotation c.args.dart c.turn.result c.turn.ensures.within c.turn.ensures.turn ∙ ap (λ t. after (next_dart c.args.rotation.now) t c.args.dart) (sym c.if-is_tree.false)
