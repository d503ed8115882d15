use Rattle.euler_check.proofs.OneFace.{AreFaces}
use Rattle.euler_check.proofs.labels.have_one_face.Given as goal

-- the rings of the darts so far have one face each
abbrev pub invariant-loop-dart : goal.invariant-loop-dart
invariant-loop-dart l = AreFaces l.rotation l.rings l.dart l.faces.items
