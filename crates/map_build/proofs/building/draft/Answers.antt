use Rattle.std.proofs.Common.{subst, sym, ap, ◌∙◌}
use Rattle.plane_model.specs.Rows.{rows_of}
use Rattle.plane_model.specs.PlaneMap.{Same}
use Rattle.plane_model.proofs.AllFaults.{none-first_fault}
use Rattle.file_laws.specs.Lawful.{is_whole, map_of_file}
use Rattle.file_laws.specs.MapOfFile.{rows_of_contents}
use Rattle.map_build.proofs.OfMap.{map_whole, map_stands}
use Rattle.map_build.proofs.building.draft.Goals as goal

pub returns-in_err-gathered-clause-exactly : goal.returns-in_err-gathered-clause-exactly
returns-in_err-gathered-clause-exactly c = none-first_fault (rows_of c.args.tables) c.requires.in_range

pub returns-in_err-parts-clause-exactly : goal.returns-in_err-parts-clause-exactly
returns-in_err-parts-clause-exactly c = none-first_fault (rows_of c.args.tables) c.requires.in_range

pub returns-in_err-write_draft-clause-exactly : goal.returns-in_err-write_draft-clause-exactly
returns-in_err-write_draft-clause-exactly c = none-first_fault (rows_of c.args.tables) c.requires.in_range

pub returns-clause-exactly : goal.returns-clause-exactly
returns-clause-exactly c = none-first_fault (rows_of c.args.tables) c.requires.in_range

pub write_draft-requires-clause-whole : goal.write_draft-requires-clause-whole
write_draft-requires-clause-whole c = ap is_whole (c.in_ok-parts.ensures.contents ∙ c.in_ok-gathered.ensures.contents) ∙ map_whole (rows_of c.args.tables) c.requires.in_range c.in_ok-gathered.ensures.consistent

pub returns-clause-stands : goal.returns-clause-stands
unfolding map_of_file
returns-clause-stands c =
    let t = rows_of c.args.tables in
    subst (λ x. Same (rows_of_contents x) t) (sym (c.in_ok-write_draft.ensures.contents ∙ (c.in_ok-parts.ensures.contents ∙ c.in_ok-gathered.ensures.contents))) (map_stands t c.requires.in_range c.in_ok-gathered.ensures.consistent)
