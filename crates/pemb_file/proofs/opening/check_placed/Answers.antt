use Rattle.std.proofs.Common.{arith, ◌∙◌}
use Rattle.std.proofs.lemmas.Result.{err_from_is_err_and}
use Rattle.bit_words.specs.WordView.{words_of as view_words}
use Rattle.pemb_file.proofs.FrontFaults.{first-some, first-none, first-last}
use Rattle.pemb_file.proofs.Wrong.{some-finds}
use Rattle.pemb_file.proofs.Opened.{names_fit}
use Rattle.pemb_file.proofs.PlacedParts.{parts-are, parts-fit, same_places, same_starts, placed-cost}
use Rattle.pemb_file.proofs.opening.check_placed.Goals as goal

pub returns-in_err-check_places-clause-fault : goal.returns-in_err-check_places-clause-fault
returns-in_err-check_places-clause-fault g c =
    let p = err_from_is_err_and c.from_residual.result c.from_residual.ensures.1 in
    let e = parts-are (view_words c.args.image.now.words) _ _ _ _ _ _ _ _ c.requires.code c.bits.ensures.bits c.names_view.ensures c.names_view-2.ensures c.names_view-3.ensures c.fields.ensures.fields c.fields-2.ensures.fields c.fields-3.ensures.fields in
    rw (p.1, p.2) (first-some _ _ _ (same_places (view_words c.args.image.now.words) _ e ∙ c.in_err-check_places.ensures.fault))

pub returns-clause-fault : goal.returns-clause-fault
returns-clause-fault g c =
    let e = parts-are (view_words c.args.image.now.words) _ _ _ _ _ _ _ _ c.requires.code c.bits.ensures.bits c.names_view.ensures c.names_view-2.ensures c.names_view-3.ensures c.fields.ensures.fields c.fields-2.ensures.fields c.fields-3.ensures.fields in
    some-finds _ _ c.check_starts.result
    (first-none _ _ (same_places (view_words c.args.image.now.words) _ e ∙ c.in_ok-check_places.ensures.fault) ∙ first-last _ ∙ same_starts (view_words c.args.image.now.words) _ e)
    c.check_starts.ensures.fault

pub invariant_of-placed : goal.invariant_of-placed
invariant_of-placed g c = record { fits = parts-fit (view_words c.args.image.now.words) _ (parts-are (view_words c.args.image.now.words) _ _ _ _ _ _ _ _ c.requires.code c.bits.ensures.bits c.names_view.ensures c.names_view-2.ensures c.names_view-3.ensures c.fields.ensures.fields c.fields-2.ensures.fields c.fields-3.ensures.fields) c.args.image.now.few }

pub returns-in_err-check_places-clause-cost : goal.returns-in_err-check_places-clause-cost
returns-in_err-check_places-clause-cost g c =
    let q = placed-cost (view_words c.args.image.now.words) _ (parts-are (view_words c.args.image.now.words) _ _ _ _ _ _ _ _ c.requires.code c.bits.ensures.bits c.names_view.ensures c.names_view-2.ensures c.names_view-3.ensures c.fields.ensures.fields c.fields-2.ensures.fields c.fields-3.ensures.fields) in
    omega (arith, q, c.in_err-check_places.ensures.cost)

pub returns-clause-cost : goal.returns-clause-cost
returns-clause-cost g c =
    let q = placed-cost (view_words c.args.image.now.words) _ (parts-are (view_words c.args.image.now.words) _ _ _ _ _ _ _ _ c.requires.code c.bits.ensures.bits c.names_view.ensures c.names_view-2.ensures c.names_view-3.ensures c.fields.ensures.fields c.fields-2.ensures.fields c.fields-3.ensures.fields) in
    omega (arith, q, c.in_ok-check_places.ensures.cost, c.check_starts.ensures.cost)

pub names_view-requires-clause-right : goal.names_view-requires-clause-right
names_view-requires-clause-right g c = (names_fit (view_words c.args.image.now.words) c.requires.names).nodes

pub names_view-requires-2-clause-right : goal.names_view-requires-2-clause-right
names_view-requires-2-clause-right g c = (names_fit (view_words c.args.image.now.words) c.requires.names).edges

pub names_view-requires-3-clause-right : goal.names_view-requires-3-clause-right
names_view-requires-3-clause-right g c = (names_fit (view_words c.args.image.now.words) c.requires.names).faces
