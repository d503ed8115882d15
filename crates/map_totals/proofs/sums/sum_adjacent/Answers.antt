use Rattle.std.specs.Prelude.{slice_index}
use Rattle.std.proofs.Common.{◌≡◌, ◌+◌, ◌<◌, ◌∙◌, ap, sym, subst, arith, true, length, List, ℕ}
use Rattle.plane_model.specs.Rotation.{is_face}
use Rattle.plane_model.specs.Lists.{adjacent}
use Rattle.pemb_file.specs.Served.{contents_of_view}
use Rattle.navigate.specs.Bound.{served_map}
use Rattle.map_totals.specs.Totals.{adjacent_words, id_words}
use Rattle.map_totals.proofs.Ids.{face_known}
use Rattle.map_totals.proofs.Summing.{summed_more, summed_fits, summed_all}
use Rattle.map_totals.proofs.Wholes.{adjacent_total_is, adjacent_words_are, adjacent_total_fits}
use Rattle.map_totals.proofs.sums.sum_adjacent.Goals as goal

pub loop-number-init : goal.loop-number-init
loop-number-init g c =
    let i = adjacent_total_is (contents_of_view c.args.served) c.args.served.whole in
    let k = adjacent_words_are (contents_of_view c.args.served) c.args.served.whole in
    (c.adjacent_items-total.ensures.room, c.adjacent_items-total.ensures.empty, record { adds_up = omega (arith, i, c.adjacent_items-total.ensures.count); least = c.adjacent_items-total.ensures.least; paid = omega (arith, k, c.adjacent_items-total.ensures.paid) })

pub adjacent_items-total-requires-in-loop-number-clause-face : goal.adjacent_items-total-requires-in-loop-number-clause-face
adjacent_items-total-requires-in-loop-number-clause-face g c =
    let many = ap length c.faces-faces.ensures in
    let below = c.loop-number-test.true in
    let within : c.loop-number.number < length (contents_of_view c.args.served).faces = omega (arith, many, below, c.count-count.ensures.count) in
    let is = c.id_of.ensures.id ∙ ap (λ (xs : List ℕ). slice_index xs c.loop-number.number) c.faces-faces.ensures in
    subst (λ x. is_face (served_map c.args.served) x ≡ true) (sym is) (face_known (contents_of_view c.args.served) c.args.served.whole c.loop-number.number within)

pub overflow_add-total : goal.overflow_add-total
overflow_add-total g c =
    let m = served_map c.args.served in
    let many = ap length c.faces-faces.ensures in
    let below = c.loop-number-test.true in
    let within : c.loop-number.number < length (contents_of_view c.args.served).faces = omega (arith, many, below, c.count-count.ensures.count) in
    let is = c.id_of.ensures.id ∙ ap (λ (xs : List ℕ). slice_index xs c.loop-number.number) c.faces-faces.ensures in
    let all = adjacent_total_fits (contents_of_view c.args.served) c.args.served.whole in
    let more = summed_fits (λ x. length (adjacent m x)) (λ x. id_words (length (contents_of_view c.args.served).faces) + adjacent_words m x) (contents_of_view c.args.served).faces c.loop-number.number _ _ _ c.loop-number.total _ c.adjacent_items-total-in-loop-number.result c.id_of.result c.loop-number.invariant.2 within is c.adjacent_items-total-in-loop-number.ensures.count in
    omega (arith, all, more)

pub loop-number-preserved : goal.loop-number-preserved
loop-number-preserved g c =
    let m = served_map c.args.served in
    let many = ap length c.faces-faces.ensures in
    let below = c.loop-number-test.true in
    let within : c.loop-number.number < length (contents_of_view c.args.served).faces = omega (arith, many, below, c.count-count.ensures.count) in
    let is = c.id_of.ensures.id ∙ ap (λ (xs : List ℕ). slice_index xs c.loop-number.number) c.faces-faces.ensures in
    let price = ap id_words many in
    (c.adjacent_items-total-in-loop-number.ensures.room ∙ c.loop-number.invariant.0, c.adjacent_items-total-in-loop-number.ensures.empty, summed_more (λ x. length (adjacent m x)) (adjacent_words m) (contents_of_view c.args.served).faces c.loop-number.number _ _ _ c.loop-number.total c.loop-number.steps (id_words (length (contents_of_view c.args.served).faces)) c.id_of.new.steps c.adjacent_items-total-in-loop-number.new.steps c.adjacent_items-total-in-loop-number.result c.id_of.result c.loop-number.invariant.2 within is (omega (arith, c.id_of.ensures.some_steps)) (omega (arith, c.id_of.ensures.cost, price)) c.adjacent_items-total-in-loop-number.ensures.count c.adjacent_items-total-in-loop-number.ensures.least c.adjacent_items-total-in-loop-number.ensures.paid)

pub returns-clause-sum : goal.returns-clause-sum
returns-clause-sum g c =
    let m = served_map c.args.served in
    let many = ap length c.faces-faces.ensures in
    let above = c.loop-number-test.false in
    summed_all (λ x. length (adjacent m x)) (λ x. id_words (length (contents_of_view c.args.served).faces) + adjacent_words m x) (contents_of_view c.args.served).faces c.loop-number.number _ _ _ c.loop-number.total _ c.loop-number.invariant.2 (omega (arith, many, above, c.count-count.ensures.count))
