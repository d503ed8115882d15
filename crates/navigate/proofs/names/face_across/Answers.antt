use Rattle.std.proofs.Common.{ap, ◌∙◌}
use Rattle.pemb_file.specs.Served.{contents_of_view}
use Rattle.file_laws.specs.MapOfFile.{face_at, face_at_place}
use Rattle.navigate.specs.Beside.{place_across}
use Rattle.navigate.proofs.names.face_across.Goals as goal

pub returns-clause-face : goal.returns-clause-face
unfolding face_at place_across
returns-clause-face g c = c.face_in.ensures.face ∙ ap (face_at_place (contents_of_view c.args.served)) c.place_across-place.ensures.place
