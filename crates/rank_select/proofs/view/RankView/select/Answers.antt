use Rattle.std.proofs.Common.{◌∙◌, arith, sym}
use Rattle.std.proofs.lemmas.Bool.{eqb-true}
use Rattle.rank_select.specs.RankView.{counted}
use Rattle.rank_select.proofs.CountLaws.{run_selected}
use Rattle.rank_select.proofs.view.RankView.select.Goals as goal

pub returns-then-is_run_to-clause-selected : goal.returns-then-is_run_to-clause-selected
returns-then-is_run_to-clause-selected g c =
    let run = eqb-true _ _ (sym c.is_run_to.ensures.run ∙ c.if-is_run_to.true) in
    run_selected c.args.kind (counted c.args.self.now) _ c.args.j (omega arith) run (omega arith)
