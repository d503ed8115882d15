use Rattle.std.proofs.Common.{ap, sym}
use Rattle.std.specs.Prelude.{true, unwrap_or, Some}
use Rattle.rank_select.proofs.Selects.{selected}
use Rattle.parens.specs.ParenView.{parens_of}
use Rattle.region_tree.proofs.view.RegionView.opening.Goals as goal

pub returns-clause-place : goal.returns-clause-place
returns-clause-place g c = ap (λ o. unwrap_or o 0) (selected true (parens_of c.args.self.now.tree) c.args.region (Some c.in-Some.place) c.in-Some.ensures.place)
