use Rattle.std.specs.Prelude.{map, take}
use Rattle.std.proofs.Common.{arith, sym, ◌∙◌, ap, subst, ◌≡◌, ◌<◌, ◌*◌, ℕ, true, length}
use Rattle.scratch_region.specs.Marks.{is_marked}
use Rattle.plane_model.specs.Sets.{has}
use Rattle.file_laws.specs.Contents.{Contents}
use Rattle.navigate.specs.Beside.{place_across}
use Rattle.navigate.specs.FaceWalk as rings
use Rattle.navigate.specs.FaceWalk.{face_positions, pass_price}
use Rattle.navigate.specs.AdjacentWalk.{contents_in, allowance}
use Rattle.navigate.proofs.WithinLaws.{face-in}
use Rattle.navigate.proofs.StandingLaws.{given_across}
use Rattle.navigate.proofs.AcrossLaws.{given_low}
use Rattle.navigate.proofs.ClearLaws.{fewer_in, none_left}
use Rattle.navigate.proofs.across.AdjacentWalk.close.Goals as goal

pub clear_places-requires : goal.clear_places-requires
clear_places-requires g c = λ j there.
    let v = c.args.self in
    let m = contents_in v in
    let all = face_positions v.whole in
    let within : (x : ℕ) → has all x ≡ true → x < length m.code.a = λ x in_it. subst (λ (y : Contents). x < length y.code.a) v.same (face-in v.whole x in_it) in
    let kept : has (take v.count v.given) j ≡ true = fewer_in _ v.count v.given j there (omega arith) in
    let given = ap (λ xs. has xs j) (sym (v.kept c.if-count-le-KEPT.true)) ∙ kept in
    omega (arith, given_low m v.left.served.whole v.place v.count all within j given, c.requires.room)

pub returns-then-count-le-KEPT-clause-empty : goal.returns-then-count-le-KEPT-clause-empty
returns-then-count-le-KEPT-clause-empty g c = λ j.
    let v = c.args.self in
    let among : is_marked c.args.marks.now j ≡ true → has (take v.count v.given) j ≡ true = λ on. ap (λ xs. has xs j) (v.kept c.if-count-le-KEPT.true) ∙ sym (c.requires.marks j) ∙ on in
    c.clear_places.ensures.marked j ∙ none_left (is_marked c.args.marks.now j) (has (take v.count v.given) j) among

pub returns-else-room-count-clause-empty : goal.returns-else-room-count-clause-empty
returns-else-room-count-clause-empty g c = λ j.
    let v = c.args.self in
    let all = face_positions v.whole in
    let among : is_marked c.args.marks.now j ≡ true → has (map (place_across (rings.contents_in v.whole)) all) j ≡ true
    = λ on. subst (λ (x : Contents). has (map (place_across x) all) j ≡ true) (sym v.same) (given_across (contents_in v) v.place all v.count j (sym (c.requires.marks j) ∙ on)) in
    c.clear_across.ensures.marked j ∙ none_left (is_marked c.args.marks.now j) (has (map (place_across (rings.contents_in v.whole)) all) j) among

pub returns-else-room-count-clause-paid : goal.returns-else-room-count-clause-paid
unfolding allowance
returns-else-room-count-clause-paid g c =
    let v = c.args.self in
    let round = ap (λ (x : Contents). pass_price x * length (face_positions v.whole)) v.same in
    omega (arith, c.clear_across.ensures.paid, round)
