use Rattle.std.proofs.Common.{arith, sym, ◌∙◌, ap, subst, ◌≡◌, ◌<◌, ◌≤◌, ◌+◌, ◌*◌, ℕ, true, length}
use Rattle.std.specs.Prelude.{map}
use Rattle.std.proofs.lemmas.List.{length-map}
use Rattle.plane_model.specs.Sets.{has}
use Rattle.plane_model.specs.Lists.{face_edges}
use Rattle.file_laws.specs.Contents.{Contents}
use Rattle.file_laws.specs.MapOfFile.{signed_at, face_at_place}
use Rattle.pemb_file.specs.Served.{contents_of_view}
use Rattle.navigate.specs.Bound.{map_with, line_digits, line_words, served_map, most_words}
use Rattle.navigate.specs.Beside.{adjacent_places}
use Rattle.navigate.specs.Standing.{IsStanding}
use Rattle.navigate.specs.OrbitWalk.{rank_price}
use Rattle.navigate.specs.FaceWalk as rings
use Rattle.navigate.specs.FaceWalk.{contents_in, face_positions, pass_price}
use Rattle.navigate.specs.AdjacentWalk.{rest, allowance, step_price}
use Rattle.navigate.proofs.Facts.{words_line}
use Rattle.navigate.proofs.OrbitLengths.{some_digits}
use Rattle.navigate.proofs.FaceLaws.{rest-is}
use Rattle.navigate.proofs.StandingLaws.{begin}
use Rattle.navigate.proofs.WithinLaws.{face-in}
use Rattle.navigate.proofs.AcrossLaws.{few_places, adjacent_named, adjacent_paid}
use Rattle.navigate.proofs.neighbours.adjacent_walk.Goals as goal

pub returns-in_default-clause-paid : goal.returns-in_default-clause-paid
returns-in_default-clause-paid g c =
    let d = some_digits (contents_of_view c.args.served) in
    let words = words_line (contents_of_view c.args.served) c.args.served.whole 0 0 in
    omega (arith, d, words, c.in_default.ensures.cost)

pub standing-requires-clause-standing : goal.standing-requires-clause-standing
standing-requires-clause-standing g c =
    let whole = c.rings_at-whole.result in
    let left = c.to_other-next.new.ring in
    let m = contents_in whole in
    let place = c.in-Some.place in
    let few = few_places m whole.served.whole place (face_positions whole) (face-in whole) in
    subst (λ (x : Contents). IsStanding x place (face_positions whole) (face_positions left) 0 c.to_other-next.result) (sym c.to_other-next.ensures.contents)
    (begin m place (face_positions whole) (face_positions left) c.to_other-next.result c.to_other-next.ensures.unseen c.to_other-next.ensures.stands few)

pub returns-clause-list : goal.returns-clause-list
returns-clause-list g c =
    let m = contents_of_view c.args.served in
    let whole = c.rings_at-whole.result in
    let place = c.in-Some.place in
    let ps = face_positions whole in
    let first : contents_in whole ≡ m = c.rings_at-whole.ensures.contents in
    let at : contents_in c.to_other-next.new.ring ≡ m = c.to_other-next.ensures.contents ∙ first in
    let edges : map (signed_at m) ps ≡ face_edges (map_with m) (face_at_place m place) = ap (λ (x : Contents). map (signed_at x) ps) (sym first) ∙ sym (rest-is whole) ∙ c.rings_at-whole.ensures.list in
    let within : (x : ℕ) → has ps x ≡ true → x < length m.code.a = λ x there. subst (λ (y : Contents). x < length y.code.a) first (face-in whole x there) in
    c.standing.ensures.rest ∙ ap (λ (x : Contents). map (face_at_place x) (adjacent_places x place ps)) at
    ∙ adjacent_named m c.args.served.whole place c.args.face.0 ps c.in-Some.ensures.found.0 c.in-Some.ensures.found.1 within edges

pub returns-clause-paid : goal.returns-clause-paid
returns-clause-paid g c =
    let m = contents_of_view c.args.served in
    let whole = c.rings_at-whole.result in
    let left = face_positions c.to_other-next.new.ring in
    let place = c.in-Some.place in
    let ps = face_positions whole in
    let listed = length (rest c.standing.result) in
    let n = length (face_edges (served_map c.args.served) c.args.face.0) in
    let first : contents_in whole ≡ m = c.rings_at-whole.ensures.contents in
    let at : contents_in c.to_other-next.new.ring ≡ m = c.to_other-next.ensures.contents ∙ first in
    let within : (x : ℕ) → has ps x ≡ true → x < length m.code.a = λ x there. subst (λ (y : Contents). x < length y.code.a) first (face-in whole x there) in
    let gone : length (rings.rest whole) ≡ length ps = ap length (rest-is whole) ∙ length-map ps (signed_at (contents_in whole)) in
    let walked : n ≡ length ps = sym (ap length (c.rings_at-whole.ensures.list ∙ ap (face_edges (map_with m)) c.in-Some.ensures.found.1)) ∙ gone in
    let search = ap (λ (x : ℕ). rank_price m * x) gone in
    let to : c.to_other-next.new.steps + pass_price m * length left ≤ c.rings_at-whole.new.steps + (pass_price m * length ps + (12 * line_digits m + 121))
    = subst (λ (x : Contents). c.to_other-next.new.steps + pass_price x * length left ≤ c.rings_at-whole.new.steps + (pass_price x * length ps + (12 * line_digits x + 121))) first c.to_other-next.ensures.paid in
    let fits = adjacent_paid m c.args.served.whole ps (length left) listed c.args.steps.now c.place_of.new.steps c.rings_at-whole.new.steps c.to_other-next.new.steps within c.to_other-next.ensures.shorter c.in-Some.ensures.cost
    (omega (arith, search, c.rings_at-whole.ensures.cost)) to in
    let allowed : allowance c.standing.result ≡ step_price m * length left + pass_price m * length ps = c.standing.ensures.paid ∙ ap (λ (x : Contents). step_price x * length left + pass_price x * length ps) at in
    let words : most_words (served_map c.args.served) n listed ≡ line_words m (length ps) listed = words_line m c.args.served.whole n listed ∙ ap (λ (x : ℕ). line_words m x listed) walked in
    omega (arith, fits, allowed, words)
