use Rattle.map_build.proofs.Sorted.{sorted_order}
use Rattle.map_build.proofs.standing.in_order.Goals as goal

pub returns-clause-order : goal.returns-clause-order
returns-clause-order c = sorted_order c.args.standing.items c.sort_unstable.new.self.items c.requires.apart c.sort_unstable.ensures.permutation c.sort_unstable.ensures.sorted
