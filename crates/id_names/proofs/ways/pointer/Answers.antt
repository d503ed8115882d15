use Rattle.std.proofs.Common.{arith}
use Rattle.rank_select.specs.RankView.{counted}
use Rattle.id_names.proofs.Walks.{mark_within}
use Rattle.id_names.proofs.ways.pointer.Goals as goal

pub field-requires : goal.field-requires
field-requires g c =
    let v = c.args.inverse in
    omega (arith, mark_within (counted v.marks) c.args.number (omega (arith, v.size, c.requires.within)) c.requires.marked, v.ones, c.rank1-mark.ensures.rank)
