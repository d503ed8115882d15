use Rattle.std.proofs.Common.{length}
use Rattle.spanning_pair.proofs.OtherDart.{reverse_below}
use Rattle.spanning_pair.proofs.RotationDarts.{dart_of-signed, next_signed, node_signed, reverse_signed}
use Rattle.spanning_pair.proofs.laws.darts_of_signed_edges.Goals as goal

pub returns-clause-dart : goal.returns-clause-dart
returns-clause-dart c = λ r d is h. dart_of-signed r is d h

pub returns-clause-next : goal.returns-clause-next
returns-clause-next c = λ r d is h. next_signed r is d h

pub returns-clause-node : goal.returns-clause-node
returns-clause-node c = λ r d is h. node_signed r is d h

pub returns-clause-reverse : goal.returns-clause-reverse
returns-clause-reverse c = λ r d h. (reverse_below d (length r.edges) h, reverse_signed r.edges d)
