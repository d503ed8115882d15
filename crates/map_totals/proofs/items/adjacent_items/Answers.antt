use Rattle.std.proofs.Common.{sym, ◌∙◌, ap, arith, length, List, ℕ}
use Rattle.plane_model.specs.Sets.{has}
use Rattle.pemb_file.specs.Served.{contents_of_view}
use Rattle.map_totals.proofs.Few.{across-few}
use Rattle.map_totals.proofs.items.adjacent_items.Goals as goal

pub count_adjacent-count-requires-clause-few : goal.count_adjacent-count-requires-clause-few
count_adjacent-count-requires-clause-few g c =
    let few = across-few (contents_of_view c.args.served) c.args.served.whole c.args.face.0 in
    let same = ap length c.in-Some.ensures.list in
    omega (arith, few, same)

pub count_adjacent-count-requires-clause-marks : goal.count_adjacent-count-requires-clause-marks
count_adjacent-count-requires-clause-marks g c = λ j. c.requires.empty j ∙ ap (λ (xs : List ℕ). has xs j) (sym c.in-Some.ensures.places)
