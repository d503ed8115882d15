use Rattle.std.specs.Prelude.{map}
use Rattle.std.proofs.Common.{arith, ap, ◌∙◌, ◌*◌, ℕ, List, length}
use Rattle.file_laws.specs.Contents.{Contents}
use Rattle.file_laws.specs.MapOfFile.{signed_at}
use Rattle.pemb_file.specs.Served.{contents_of_view}
use Rattle.navigate.specs.Bound.{line_digits}
use Rattle.navigate.specs.OrbitWalk.{positions_left}
use Rattle.navigate.specs.FaceWalk.{face_positions, rest, price, allowance}
use Rattle.navigate.proofs.FaceLaws.{face_empty, face_end, face_next, face_rest-none, face_rest-some, face_paid}
use Rattle.navigate.proofs.face_rings.FaceWalk.step.Goals as goal

pub returns-in-Some-clause-gives : goal.returns-in-Some-clause-gives
unfolding face_positions rest
returns-in-Some-clause-gives g c =
    let next = face_next c.args.self.now c.in-Some.found.0 (positions_left c.stop.new.self) _ c.in-Some.ensures.next c.settle.ensures.positions in
    let edge = c.in-Some.ensures.edge ∙ ap (λ (m : Contents). signed_at m c.in-Some.found.0) c.args.self.now.same in
    face_rest-some c.args.self.now c.in-Some.found.0 c.in-Some.found.1 _ next edge

pub returns-in-Some-clause-paid : goal.returns-in-Some-clause-paid
unfolding face_positions rest allowance
returns-in-Some-clause-paid g c =
    let next = face_next c.args.self.now c.in-Some.found.0 (positions_left c.stop.new.self) _ c.in-Some.ensures.next c.settle.ensures.positions in
    let edge = c.in-Some.ensures.edge ∙ ap (λ (m : Contents). signed_at m c.in-Some.found.0) c.args.self.now.same in
    let more = face_rest-some c.args.self.now c.in-Some.found.0 c.in-Some.found.1 _ next edge in
    let digits = ap line_digits c.args.self.now.same in
    face_paid c.args.self.now c.in-Some.found.1 _ c.args.steps.now c.settle.new.steps more (omega (arith, digits, c.in-Some.ensures.cost.1, c.settle.ensures.cost))

pub returns-in-None-clause-gives : goal.returns-in-None-clause-gives
returns-in-None-clause-gives g c =
    (face_rest-none c.args.self.now (face_end c.args.self.now c.in-None.ensures.next), face_rest-none _ (face_end _ c.in-None.ensures.within))

pub returns-in-None-clause-paid : goal.returns-in-None-clause-paid
unfolding face_positions rest allowance
returns-in-None-clause-paid g c =
    let w = c.args.self.now in
    let m = contents_of_view w.served in
    let empty = face_empty m (positions_left c.stop.new.self) w.hole w.end c.in-None.ensures.within (w.ready c.in-None.ensures.next) in
    let none = ap (λ (ps : List ℕ). price m * length (map (signed_at m) ps)) empty in
    omega (arith, none, c.in-None.ensures.cost)
