use Rattle.std.proofs.Common.{sym, ◌∙◌, arith}
use Rattle.rank_select.specs.Counts.{counts_of}
use Rattle.rank_select.specs.RankView.{counted}
use Rattle.id_names.specs.Views.{names_in}
use Rattle.id_names.proofs.NameLaws.{length-ids}
use Rattle.region_tree.proofs.RisingIds.{rising_at}
use Rattle.region_tree.proofs.view.RegionView.number_at.Goals as goal

pub returns-clause-id : goal.returns-clause-id
returns-clause-id g c =
    let v = c.args.self.now.names in
    c.number_at.ensures.id ∙ sym (rising_at (names_in v) (counts_of (counted v.ids.high)) (counts_of (counted v.inverse.marks)) v.right c.args.place (omega (arith, c.requires, length-ids (names_in v))))
