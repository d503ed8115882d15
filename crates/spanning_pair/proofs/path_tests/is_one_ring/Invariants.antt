use Rattle.spanning_pair.proofs.OneRing.{AreMet}
use Rattle.spanning_pair.proofs.path_tests.is_one_ring.Given as goal

abbrev pub invariant-loop : goal.invariant-loop
invariant-loop l = AreMet l.rotation l.met.items l.dart
