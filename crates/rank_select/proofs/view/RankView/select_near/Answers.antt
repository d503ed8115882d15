use Rattle.std.proofs.Common.{◌+◌, ◌*◌, ◌/◌, arith}
use Rattle.rank_select.specs.RankView.{counted}
use Rattle.rank_select.proofs.CountLaws.{rank-le-all}
use Rattle.rank_select.proofs.view.RankView.select_near.Goals as goal

pub select_in-requires-clause-some : goal.select_in-requires-clause-some
select_in-requires-clause-some g c = omega (arith, rank-le-all c.args.kind (counted c.args.self.now) (512 * (c.args.near / 512 + 1)))
