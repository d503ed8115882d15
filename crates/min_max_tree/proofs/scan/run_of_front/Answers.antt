use Rattle.min_max_tree.proofs.Fronts.{run-front}
use Rattle.min_max_tree.proofs.scan.run_of_front.Goals as goal

pub returns : goal.returns
returns c =
    run-front c.args.word c.args.count c.ones_below-ones.result c.deepest_fall-fall.result c.requires c.ones_below-ones.ensures c.deepest_fall-fall.ensures.fall c.deepest_fall-fall.ensures.few
