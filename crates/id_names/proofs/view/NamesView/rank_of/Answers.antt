use Rattle.std.proofs.Common.{ap, sym, ◌∙◌, arith}
use Rattle.rank_select.specs.RankView.{counted}
use Rattle.rank_select.specs.Counts.{counts_of}
use Rattle.id_names.specs.RisingNames.{id_at}
use Rattle.id_names.specs.Views.{names_in}
use Rattle.id_names.proofs.NameLaws.{length-ids, get_or-ids, ordered}
use Rattle.id_names.proofs.view.NamesView.rank_of.Goals as goal

pub field-requires : goal.field-requires
field-requires g c = omega (arith, c.requires, length-ids (names_in c.args.self.now))

pub returns-clause-within : goal.returns-clause-within
returns-clause-within g c =
    let v = c.args.self.now in
    let n = ordered (names_in v) (counts_of (counted v.ids.high)) (counts_of (counted v.inverse.marks)) v.right c.args.number (omega (arith, c.requires, length-ids (names_in v))) in
    omega (arith, n.within, c.field.ensures.field, length-ids (names_in v))

pub returns-clause-id : goal.returns-clause-id
returns-clause-id g c =
    let v = c.args.self.now in
    get_or-ids (names_in v) c.args.number (omega (arith, c.requires, length-ids (names_in v))) ∙ sym (ap (id_at (names_in v)) c.field.ensures.field)
