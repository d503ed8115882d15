use Rattle.std.proofs.Common.{◌≡◌, ◌∷◌, take}
use Rattle.islands.proofs.FaceNumbers.{other_ids}
use Rattle.islands.proofs.numbers.face_ids.Given as goal

abbrev pub invariant-loop-face : goal.invariant-loop-face
invariant-loop-face l = l.ids.items ≡ (0 ∷ other_ids (take l.face-index l.faces))
