use Rattle.std.proofs.Common.{List, ℕ, subst, sym}
use Rattle.plane_model.specs.Rows.{rows_of}
use Rattle.file_laws.specs.Lawful.{StandsFor}
use Rattle.map_build.proofs.building.build.Goals as goal

pub returns-clause-stands : goal.returns-clause-stands
returns-clause-stands c = subst (λ (image : List ℕ). StandsFor image (rows_of c.args.tables)) (sym c.seal.ensures.file) c.in_ok-draft.ensures.stands
