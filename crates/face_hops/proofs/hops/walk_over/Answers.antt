use Rattle.std.proofs.Common.{arith, sym, ap, ◌∙◌}
use Rattle.plane_model.specs.Hops.{distance, hops}
use Rattle.file_laws.specs.MapOfFile.{face_at_place}
use Rattle.pemb_file.specs.Served.{contents_of_view}
use Rattle.navigate.specs.Bound.{map_with}
use Rattle.navigate.proofs.Facts.{words_line}
use Rattle.navigate.proofs.OrbitLengths.{some_digits}
use Rattle.face_hops.specs.HopWalk.{rest, allowance}
use Rattle.face_hops.proofs.Paid.{hops_few, hop_words_fit}
use Rattle.face_hops.proofs.hops.walk_over.Goals as goal

pub returns-clause-list : goal.returns-clause-list
returns-clause-list g c =
    let m = contents_of_view c.args.served in
    c.over.ensures.list ∙ ap (λ f. hops (map_with m) f (face_at_place m c.in-Some-place_of.end)) c.in-Some.ensures.found.1 ∙ ap (λ f. hops (map_with m) c.args.from.0 f) c.in-Some-place_of.ensures.found.1

pub returns-clause-moves : goal.returns-clause-moves
returns-clause-moves g c =
    let m = contents_of_view c.args.served in
    sym (ap (λ f. distance (map_with m) f (face_at_place m c.in-Some-place_of.end)) c.in-Some.ensures.found.1 ∙ ap (λ f. distance (map_with m) c.args.from.0 f) c.in-Some-place_of.ensures.found.1) ∙ c.over.ensures.moves

pub returns-clause-paid : goal.returns-clause-paid
returns-clause-paid g c =
    let m = contents_of_view c.args.served in
    let h = c.args.served.whole in
    let few = hops_few m h c.in-Some.place c.in-Some-place_of.end c.in-Some.ensures.found.0 c.in-Some-place_of.ensures.found.0 (rest c.over.result) c.over.ensures.list in
    let paid = c.over.ensures.paid in
    hop_words_fit m h c.args.steps.now c.place_of.new.steps c.place_of-2.new.steps c.distances_from-distances.new.steps (allowance c.over.result) c.in-Some.ensures.cost c.in-Some-place_of.ensures.cost c.distances_from-distances.ensures.paid
    (omega (arith, few, paid))

pub returns-in_default-clause-unknown : goal.returns-in_default-clause-unknown
returns-in_default-clause-unknown g c =
    let d = some_digits (contents_of_view c.args.served) in
    let words = words_line (contents_of_view c.args.served) c.args.served.whole 0 0 in
    omega (arith, d, words, c.in_default.ensures.cost)

pub returns-in_default-place_of-clause-unknown : goal.returns-in_default-place_of-clause-unknown
returns-in_default-place_of-clause-unknown g c =
    let d = some_digits (contents_of_view c.args.served) in
    let words = words_line (contents_of_view c.args.served) c.args.served.whole 0 0 in
    omega (arith, d, words, c.in-Some.ensures.cost, c.in_default-place_of.ensures.cost)
