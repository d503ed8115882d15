use Rattle.std.proofs.Common.{ℕ, List, length, ap, arith, ◌∙◌}
use Rattle.scratch_region.specs.Numbers.{numbers_of}
use Rattle.pemb_file.specs.Served.{contents_of_view}
use Rattle.file_laws.specs.MapOfFile.{face_at, face_at_place}
use Rattle.table_dump.proofs.Reading.{face_read}
use Rattle.table_dump.proofs.sweep.face_beside.Goals as goal

pub face-requires : goal.face-requires
face-requires g c = let many = ap (λ (xs : List ℕ). length xs) c.requires.ids.faces in omega (arith, many, c.place_beside-place.ensures.within)

pub returns-clause-face : goal.returns-clause-face
unfolding face_at
returns-clause-face g c = λ p numbers.
    let m = contents_of_view c.args.served in
    let place = c.place_beside-place.result in
    face_read m (numbers_of c.args.ids.now.faces) place c.face.result c.requires.ids.faces c.face.ensures ∙ ap (face_at_place m) (c.place_beside-place.ensures.place p numbers)
