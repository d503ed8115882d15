use Rattle.std.proofs.Common.{◌≡◌, ℕ, ◌+◌, length, ap, sym, ◌∙◌, arith, Option, Some, None}
use Rattle.bit_words.specs.Digits.{digits}
use Rattle.bit_words.specs.PackedView.{fields_of}
use Rattle.rank_select.specs.Counts.{counts_of}
use Rattle.rank_select.specs.RankView.{counted}
use Rattle.id_names.specs.RisingNames.{id_at}
use Rattle.id_names.specs.Views.{ids_of, names_in}
use Rattle.id_names.proofs.NameLaws.{length-ids, get_or-ids, walk_there}
use Rattle.id_names.proofs.view.NamesView.number_at.Goals as goal

pub unreachable-requires : goal.unreachable-requires
unreachable-requires g c =
    let v = c.args.self.now in
    let there = walk_there (names_in v) (counts_of (counted v.ids.high)) (counts_of (counted v.inverse.marks)) v.right c.args.place (omega (arith, c.requires, length-ids (names_in v))) in
    let e : ◌≡◌ {A = Option ℕ} None (Some there.0) = c.in_default.ensures.number ∙ there.1 in
    cc

pub returns-clause-within : goal.returns-clause-within
returns-clause-within g c = omega (arith, c.in-Some.ensures.found.0, length-ids (names_in c.args.self.now))

pub returns-clause-id : goal.returns-clause-id
returns-clause-id g c =
    let p = names_in c.args.self.now in
    get_or-ids p c.in-Some.number c.in-Some.ensures.found.0 ∙ ap (id_at p) c.in-Some.ensures.found.1

pub returns-clause-cost : goal.returns-clause-cost
returns-clause-cost g c =
    let v = c.args.self.now in
    let e : digits (length (fields_of v.inverse.places) + 2) ≡ digits (length (ids_of v) + 2) = ap (λ n. digits (n + 2)) (sym (length-ids (names_in v))) in
    omega (arith, e, c.number.ensures.cost)
