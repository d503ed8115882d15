use Rattle.std.specs.Prelude.{drop, if◌then◌else◌}
use Rattle.std.proofs.Common.{arith, sym, ap, ◌∙◌, ◌+◌, ◌≡◌, true, false, ◌∷◌}
use Rattle.std.proofs.Math.Nat.{le_refl}
use Rattle.face_hops.specs.HopWalk.{contents_in, way, rest, allowance}
use Rattle.plane_model.specs.Hops.{hops}
use Rattle.file_laws.specs.MapOfFile.{face_at_place}
use Rattle.navigate.specs.Bound.{map_with}
use Rattle.face_hops.specs.Prices.{rounds_price}
use Rattle.face_hops.proofs.Stepping.{way_is, rest_fresh, rest_given, way_head, way_end, step_on}
use Rattle.face_hops.proofs.Paid.{named_paid, moved_paid}
use Rattle.face_hops.proofs.walk.HopWalk.step.Goals as goal

pub returns-then-not-self-clause-next : goal.returns-then-not-self-clause-next
unfolding way rest
returns-then-not-self-clause-next g c =
    let v = c.args.self.now in
    let fresh : v.given ≡ false = c.if-not-self.true in
    rest_fresh v fresh ∙ way_head v ∙ ap (λ x. x ∷ drop 1 (way v)) (sym c.face_in.ensures.face)

pub returns-then-get-le1-clause-next : goal.returns-then-get-le1-clause-next
returns-then-get-le1-clause-next g c =
    let v = c.args.self.now in
    let given : v.given ≡ true = c.if-not-self.false in
    rest_given v given ∙ way_end v (omega (arith, c.get.ensures))

pub returns-then-get-le1-clause-end : goal.returns-then-get-le1-clause-end
unfolding way rest
returns-then-get-le1-clause-end g c =
    let v = c.args.self.now in
    let given : v.given ≡ true = c.if-not-self.false in
    λ _. rest_given v given ∙ way_end v (omega (arith, c.get.ensures))

pub returns-clause-next : goal.returns-clause-next
unfolding way rest
returns-clause-next g c =
    let v = c.args.self.now in
    let given : v.given ≡ true = c.if-not-self.false in
    step_on v c.nearer-self.result c.face_in-2.result.0 given c.nearer-self.ensures.within c.nearer-self.ensures.way c.face_in-2.ensures.face

pub returns-then-not-self-clause-paid : goal.returns-then-not-self-clause-paid
unfolding way rest allowance
returns-then-not-self-clause-paid g c =
    let v = c.args.self.now in
    let m = contents_in v in
    let fresh : v.given ≡ false = c.if-not-self.true in
    named_paid m (rest v) (drop 1 (way v)) c.face_in.result.0 (rounds_price m (way v)) c.args.steps.now c.face_in.new.steps (rest_fresh v fresh ∙ way_head v ∙ ap (λ x. x ∷ drop 1 (way v)) (sym c.face_in.ensures.face)) c.face_in.ensures.cost

pub returns-clause-paid : goal.returns-clause-paid
unfolding way rest allowance
returns-clause-paid g c =
    let v = c.args.self.now in
    let m = contents_in v in
    let given : v.given ≡ true = c.if-not-self.false in
    let later = hops (map_with m) (face_at_place m c.nearer-self.result) (face_at_place m v.to) in
    moved_paid m (way v) later (rest v) (drop (if v.given then 1 else 0) later) (face_at_place m v.place) c.face_in-2.result.0 c.args.steps.now c.nearer-self.new.steps c.face_in-2.new.steps (way_is v ∙ c.nearer-self.ensures.way)
    (step_on v c.nearer-self.result c.face_in-2.result.0 given c.nearer-self.ensures.within c.nearer-self.ensures.way c.face_in-2.ensures.face) c.nearer-self.ensures.paid c.face_in-2.ensures.cost

pub returns-then-get-le1-clause-paid : goal.returns-then-get-le1-clause-paid
unfolding way rest allowance
returns-then-get-le1-clause-paid g c = le_refl (c.args.steps.now + allowance c.args.self.now)
