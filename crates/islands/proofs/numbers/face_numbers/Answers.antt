use Rattle.std.proofs.Common.{rules, ◌≡◌, ◌<◌, List, length, true, subst, sym, ◌∙◌, ℕ}
use Rattle.std.specs.Prelude.{slice_index}
use Rattle.std.proofs.lemmas.Option.{slice_get_within, get_or_from_slice_get}
use Rattle.plane_model.specs.Sets.{has}
use Rattle.id_index.proofs.Indexes.{index-has, index_there}
use Rattle.islands.proofs.numbers.face_numbers.Goals as goal

pub face_number-requires : goal.face_number-requires
face_number-requires c =
    index-has c.args.ids.now c.in_ok-index.index c.side.result c.in_ok-index.ensures ∙ subst (λ f. has c.args.ids.now f ≡ true) (sym c.side.ensures) (c.requires.there c.loop-dart.dart-index c.loop-dart-test.true)

pub loop-dart-preserved : goal.loop-dart-preserved
loop-dart-preserved c =
    let ids : List ℕ = c.args.ids.now in
    let number : ℕ = c.face_number.result in
    let at = index_there ids c.in_ok-index.index c.side.result number c.in_ok-index.ensures c.face_number.ensures in
    let within : number < length ids = slice_get_within ids number c.side.result at in
    let is : slice_index ids number ≡ c.side.result = get_or_from_slice_get ids number c.side.result 0 at in
    search rules
