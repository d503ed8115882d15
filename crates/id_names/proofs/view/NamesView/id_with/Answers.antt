use Rattle.std.proofs.Common.{◌≡◌, ◌+◌, length, ap, sym, ◌∙◌, arith}
use Rattle.bit_words.specs.Digits.{digits}
use Rattle.bit_words.specs.PackedView.{fields_of}
use Rattle.id_names.specs.Views.{names_in, ids_of}
use Rattle.id_names.proofs.NameLaws.{length-ids}
use Rattle.id_names.proofs.view.NamesView.id_with.Goals as goal

pub id_with-requires-clause-within : goal.id_with-requires-clause-within
id_with-requires-clause-within g c = let v = c.args.self.now in omega (arith, c.requires.within, length-ids (names_in v), v.count)

pub returns-clause-cost : goal.returns-clause-cost
returns-clause-cost g c =
    let v = c.args.self.now in
    let e : digits (length (fields_of v.ids.lows) + 2) ≡ digits (length (ids_of v) + 2) = ap (λ n. digits (n + 2)) (v.count ∙ sym (length-ids (names_in v))) in
    omega (arith, e, c.id_with.ensures.cost)
