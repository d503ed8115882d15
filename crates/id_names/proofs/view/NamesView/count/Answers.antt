use Rattle.std.proofs.Common.{sym, ◌∙◌, arith}
use Rattle.rank_select.specs.RankView.{counted}
use Rattle.rank_select.specs.Counts.{counts_of}
use Rattle.id_names.specs.Views.{names_in}
use Rattle.id_names.proofs.NameLaws.{length-ids, right_names, rises}
use Rattle.id_names.proofs.view.NamesView.count.Goals as goal

pub returns-clause-count : goal.returns-clause-count
returns-clause-count c = c.count.ensures ∙ sym (length-ids (names_in c.args.self.now))

pub returns-clause-names : goal.returns-clause-names
returns-clause-names c =
    let v = c.args.self.now in
    right_names (names_in v) (counts_of (counted v.ids.high)) (counts_of (counted v.inverse.marks)) v.right

pub returns-clause-rising : goal.returns-clause-rising
returns-clause-rising c = λ i j h l.
    let v = c.args.self.now in
    rises (names_in v) (counts_of (counted v.ids.high)) (counts_of (counted v.inverse.marks)) v.right i j h (omega (arith, l, length-ids (names_in v)))
