use Rattle.std.proofs.Common.{◌*◌, arith, length}
use Rattle.rank_select.specs.Counts.{blocks}
use Rattle.rank_select.specs.RankView.{counted}
use Rattle.rank_select.proofs.CountLaws.{rank-le-all, share_fits}
use Rattle.rank_select.proofs.view.RankView.start_of.Goals as goal

pub blocks_for-block-requires-clause-fits : goal.blocks_for-block-requires-clause-fits
blocks_for-block-requires-clause-fits g c = share_fits (blocks (length (counted c.args.self.now)) * 262144) c.args.j c.args.all c.saturating_sub-coarse.result c.share_of-share.result (omega arith) c.share_of-share.ensures.share

pub blocks_for-away-requires-clause-fits : goal.blocks_for-away-requires-clause-fits
blocks_for-away-requires-clause-fits g c =
    let few = rank-le-all c.args.kind (counted c.args.self.now) (512 * c.blocks_for-block.result) in
    share_fits (blocks (length (counted c.args.self.now)) * 262144) c.abs_diff.result c.args.all c.saturating_sub-coarse.result c.share_of-share.result (omega arith) c.share_of-share.ensures.share

pub blocks_for-first-requires-clause-fits : goal.blocks_for-first-requires-clause-fits
blocks_for-first-requires-clause-fits g c =
    let few = rank-le-all c.args.kind (counted c.args.self.now) (512 * c.moved_block-nearer.result) in
    share_fits (blocks (length (counted c.args.self.now)) * 262144) c.abs_diff-2.result c.args.all c.saturating_sub-coarse.result c.share_of-share.result (omega arith) c.share_of-share.ensures.share
