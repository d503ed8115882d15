use Rattle.std.proofs.Common.{◌≡◌, ◌∙◌, ◌∷◌, List, take, arith, ap}
use Rattle.std.proofs.lemmas.List.{take_all}
use Rattle.plane_model.specs.declared.rows.FaceRow.{FaceRow}
use Rattle.plane_model.specs.Sets.{rising}
use Rattle.islands.proofs.FaceNumbers.{other_ids, rising_zero}
use Rattle.islands.proofs.numbers.face_ids.Goals as goal

pub returns : goal.returns
returns c =
    let faces : List FaceRow = c.args.faces.now in
    let all : take c.loop-face.face-index faces ≡ faces = take_all c.loop-face.face-index faces (let a = c.loop-face-test.false in omega arith) in
    c.rising_ids.ensures ∙ ap rising (c.loop-face.invariant ∙ ap (λ fs. 0 ∷ other_ids fs) all) ∙ rising_zero (other_ids faces)
