use Rattle.std.proofs.Common.{arith, ap, ◌∙◌, length}
use Rattle.std.specs.Prelude.{option_to_list}
use Rattle.plane_model.specs.Regions.{common as common_region}
use Rattle.file_laws.specs.MapOfFile.{face_at_place}
use Rattle.pemb_file.specs.Served.{contents_of_view}
use Rattle.navigate.specs.Bound.{map_with}
use Rattle.navigate.proofs.Facts.{words_line}
use Rattle.navigate.proofs.OrbitLengths.{some_digits}
use Rattle.navigate.proofs.RegionLaws.{shared_fits}
use Rattle.navigate.proofs.common_region.common.Goals as goal

pub returns-in_err-first_place-clause-paid : goal.returns-in_err-first_place-clause-paid
returns-in_err-first_place-clause-paid g c =
    let d = some_digits (contents_of_view c.args.served) in
    let words = words_line (contents_of_view c.args.served) c.args.served.whole 0 0 in
    rw c.from_residual.ensures (omega (arith, d, words, c.place_of.ensures.cost))

pub returns-in_err-second_place-clause-paid : goal.returns-in_err-second_place-clause-paid
returns-in_err-second_place-clause-paid g c =
    let d = some_digits (contents_of_view c.args.served) in
    let words = words_line (contents_of_view c.args.served) c.args.served.whole 0 0 in
    rw c.from_residual-in_err-second_place.ensures (omega (arith, d, words, c.place_of.ensures.cost, c.place_of-2.ensures.cost))

pub returns-clause-region : goal.returns-clause-region
returns-clause-region g c =
    let m = contents_of_view c.args.served in
    c.common_at.ensures.region
    ∙ ap (λ f. common_region (map_with m) f (face_at_place m c.in_ok-second_place.second_place)) c.in_ok-first_place.ensures.found.1
    ∙ ap (λ f. common_region (map_with m) c.args.first.0 f) c.in_ok-second_place.ensures.found.1

pub returns-clause-paid : goal.returns-clause-paid
returns-clause-paid g c =
    let m = contents_of_view c.args.served in
    let n = length (option_to_list c.common_at.result) in
    let words = words_line m c.args.served.whole 0 n in
    let fits = shared_fits m n c.args.steps.now c.common_at.new.steps (omega (arith, c.in_ok-first_place.ensures.cost, c.in_ok-second_place.ensures.cost, c.common_at.ensures.cost)) in
    omega (arith, words, fits)
