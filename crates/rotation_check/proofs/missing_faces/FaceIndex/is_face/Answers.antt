use Rattle.std.proofs.Common.{map, sym, ap, ◌∙◌}
use Rattle.std.specs.Prelude.{is_some}
use Rattle.std.proofs.lemmas.Bool.{ne_eqb}
use Rattle.plane_model.specs.Rows.{rows_of}
use Rattle.id_index.proofs.Indexes.{index-has}
use Rattle.rotation_check.proofs.RowLemmas.{is_face-has}
use Rattle.rotation_check.proofs.missing_faces.FaceIndex.is_face.Goals as goal

pub returns-else-face-eq0 : goal.returns-else-face-eq0
returns-else-face-eq0 c =
    c.is_some.ensures ∙ ap is_some c.row_of.ensures
    ∙ index-has (map (λ f. f.id) c.args.self.now.tables.now.faces.items) c.args.self.now.rows c.args.face c.requires
    ∙ sym (is_face-has (rows_of c.args.self.now.tables.now) c.args.face (ne_eqb c.args.face 0 c.if-face-eq0.false))
