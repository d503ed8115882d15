use Rattle.std.specs.Prelude.{slice_index}
use Rattle.std.proofs.Common.{◌≡◌, ◌+◌, ◌<◌, ◌∙◌, ap, sym, subst, arith, true, length, List, ℕ}
use Rattle.plane_model.specs.Rotation.{is_face}
use Rattle.plane_model.specs.Lists.{face_edges}
use Rattle.pemb_file.specs.Served.{contents_of_view}
use Rattle.navigate.specs.Bound.{served_map}
use Rattle.map_totals.specs.Totals.{face_words, id_words}
use Rattle.map_totals.proofs.Ids.{face_known}
use Rattle.map_totals.proofs.Summing.{summed_more, summed_fits, summed_all}
use Rattle.map_totals.proofs.Wholes.{face_total_is, face_words_are, face_total_fits}
use Rattle.map_totals.proofs.sums.sum_faces.Goals as goal

pub loop-number-init : goal.loop-number-init
loop-number-init g c =
    let i = face_total_is (contents_of_view c.args.served) c.args.served.whole in
    let k = face_words_are (contents_of_view c.args.served) c.args.served.whole in
    record { adds_up = omega (arith, i, c.face_items-total.ensures.count); least = c.face_items-total.ensures.least; paid = omega (arith, k, c.face_items-total.ensures.paid) }

pub face_items-total-requires-in-loop-number : goal.face_items-total-requires-in-loop-number
face_items-total-requires-in-loop-number g c =
    let many = ap length c.faces-faces.ensures in
    let below = c.loop-number-test.true in
    let within : c.loop-number.number < length (contents_of_view c.args.served).faces = omega (arith, many, below, c.count-count.ensures.count) in
    let is = c.id_of.ensures.id ∙ ap (λ (xs : List ℕ). slice_index xs c.loop-number.number) c.faces-faces.ensures in
    subst (λ x. is_face (served_map c.args.served) x ≡ true) (sym is) (face_known (contents_of_view c.args.served) c.args.served.whole c.loop-number.number within)

pub overflow_add-total : goal.overflow_add-total
overflow_add-total g c =
    let m = served_map c.args.served in
    let many = ap length c.faces-faces.ensures in
    let below = c.loop-number-test.true in
    let within : c.loop-number.number < length (contents_of_view c.args.served).faces = omega (arith, many, below, c.count-count.ensures.count) in
    let is = c.id_of.ensures.id ∙ ap (λ (xs : List ℕ). slice_index xs c.loop-number.number) c.faces-faces.ensures in
    let all = face_total_fits (contents_of_view c.args.served) c.args.served.whole in
    let more = summed_fits (λ x. length (face_edges m x)) (λ x. id_words (length (contents_of_view c.args.served).faces) + face_words m x) (contents_of_view c.args.served).faces c.loop-number.number _ _ _ c.loop-number.total _ c.face_items-total-in-loop-number.result c.id_of.result c.loop-number.invariant within is c.face_items-total-in-loop-number.ensures.count in
    omega (arith, all, more)

pub loop-number-preserved : goal.loop-number-preserved
loop-number-preserved g c =
    let m = served_map c.args.served in
    let many = ap length c.faces-faces.ensures in
    let below = c.loop-number-test.true in
    let within : c.loop-number.number < length (contents_of_view c.args.served).faces = omega (arith, many, below, c.count-count.ensures.count) in
    let is = c.id_of.ensures.id ∙ ap (λ (xs : List ℕ). slice_index xs c.loop-number.number) c.faces-faces.ensures in
    let price = ap id_words many in
    summed_more (λ x. length (face_edges m x)) (face_words m) (contents_of_view c.args.served).faces c.loop-number.number _ _ _ c.loop-number.total c.loop-number.steps (id_words (length (contents_of_view c.args.served).faces)) c.id_of.new.steps c.face_items-total-in-loop-number.new.steps c.face_items-total-in-loop-number.result c.id_of.result c.loop-number.invariant within is (omega (arith, c.id_of.ensures.some_steps)) (omega (arith, c.id_of.ensures.cost, price)) c.face_items-total-in-loop-number.ensures.count c.face_items-total-in-loop-number.ensures.least c.face_items-total-in-loop-number.ensures.paid

pub returns-clause-sum : goal.returns-clause-sum
returns-clause-sum g c =
    let m = served_map c.args.served in
    let many = ap length c.faces-faces.ensures in
    let above = c.loop-number-test.false in
    summed_all (λ x. length (face_edges m x)) (λ x. id_words (length (contents_of_view c.args.served).faces) + face_words m x) (contents_of_view c.args.served).faces c.loop-number.number _ _ _ c.loop-number.total _ c.loop-number.invariant (omega (arith, many, above, c.count-count.ensures.count))
