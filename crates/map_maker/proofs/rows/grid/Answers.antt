use Rattle.std.specs.Prelude.{IsTrue}
use Rattle.std.proofs.Common.{sym, subst}
use Rattle.plane_model.specs.InRange.{is_in_range}
use Rattle.plane_model.specs.Rows.{Rows}
use Rattle.map_maker.proofs.Ranges.{grid_in_range}
use Rattle.map_maker.proofs.rows.grid.Goals as goal

pub returns-in-Ok-clause-in_range : goal.returns-in-Ok-clause-in_range
returns-in-Ok-clause-in_range c = subst (λ (t : Rows). IsTrue (is_in_range t)) (sym c.in-Ok.ensures) (grid_in_range c.args.n c.requires.some c.requires.size)
