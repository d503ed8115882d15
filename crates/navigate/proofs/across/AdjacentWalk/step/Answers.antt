use Rattle.std.proofs.Common.{arith, sym, ◌∙◌, ap, subst, ◌≡◌, ◌≤◌, ◌+◌, ◌*◌, length}
use Rattle.std.specs.Prelude.{map, take, drop}
use Rattle.scratch_region.specs.Marks.{is_marked}
use Rattle.plane_model.specs.Sets.{has}
use Rattle.file_laws.specs.Contents.{Contents}
use Rattle.file_laws.specs.MapOfFile.{face_at_place}
use Rattle.navigate.specs.Bound.{line_digits}
use Rattle.navigate.specs.Beside.{adjacent_places}
use Rattle.navigate.specs.Standing.{IsStanding}
use Rattle.navigate.specs.FaceWalk.{contents_in, face_positions, pass_price}
use Rattle.navigate.specs.AdjacentWalk.{given, rest, allowance, step_price}
use Rattle.navigate.proofs.Facts.{few_faces}
use Rattle.navigate.proofs.Resting.{passed, passed_some}
use Rattle.navigate.proofs.StandingLaws.{StepDone, stand_end, next_of, step_done, step_paid, drop-some, gives_next, gave_next}
use Rattle.navigate.proofs.ClearLaws.{kept_next}
use Rattle.navigate.proofs.across.AdjacentWalk.step.Goals as goal

pub returns-in_default-clause-next : goal.returns-in_default-clause-next
unfolding rest
returns-in_default-clause-next g c =
    let v = c.args.self.now in
    let m = contents_in v.left in
    ap (map (face_at_place m)) (stand_end m v.place (face_positions v.whole) (face_positions v.left) v.count v.next v.standing c.in_default.ensures.next)

pub returns-in_default-clause-end : goal.returns-in_default-clause-end
unfolding rest
returns-in_default-clause-end g c = λ e.
    let v = c.args.self.now in
    let m = contents_in v.left in
    ap (map (face_at_place m)) (stand_end m v.place (face_positions v.whole) (face_positions v.left) v.count v.next v.standing c.in_default.ensures.next)

pub set-requires : goal.set-requires
set-requires g c =
    let v = c.args.self.now in
    let u = v.standing.ahead c.in-Some._p (drop 1 (face_positions v.left)) c.in-Some.ensures.next in
    omega (arith, u.low, c.requires.room)

pub overflow_cast-next : goal.overflow_cast-next
overflow_cast-next g c =
    let v = c.args.self.now in
    let u = v.standing.ahead c.in-Some._p (drop 1 (face_positions v.left)) c.in-Some.ensures.next in
    omega (arith, u.low, few_faces (contents_in v.left) v.left.served.whole)

pub face_in-face-requires : goal.face_in-face-requires
face_in-face-requires g c =
    let v = c.args.self.now in
    let u = v.standing.ahead c.in-Some._p (drop 1 (face_positions v.left)) c.in-Some.ensures.next in
    subst (λ (x : Contents). v.next ≤ length x.faces) (sym c.pass.ensures.contents) u.low

pub overflow_add-self : goal.overflow_add-self
overflow_add-self g c =
    let v = c.args.self.now in
    let m = contents_in v.left in
    let left = face_positions v.left in
    let all = face_positions v.whole in
    let n = next_of m v.place all left (drop 1 left) v.count v.next c.in-Some._p v.standing c.in-Some.ensures.next in
    let below = drop-some v.count (adjacent_places m v.place all) (drop (v.count + 1) (adjacent_places m v.place all)) v.next n.rest in
    omega (arith, below, v.standing.few, c.requires.room, c.args.marks.now.few)

pub invariant_of-self : goal.invariant_of-self
invariant_of-self g c =
    let v = c.args.self.now in
    let m = contents_in v.left in
    let left = face_positions v.left in
    let mid = face_positions c.pass.new.self in
    let new = face_positions c.to_unseen-self.new.ring in
    let at : contents_in c.to_unseen-self.new.ring ≡ m = c.to_unseen-self.ensures.contents ∙ c.pass.ensures.contents in
    let d : StepDone m v.place (face_positions v.whole) v.count v.next c.to_unseen-self.result new (is_marked c.set.new.self)
    = step_done m (contents_in c.pass.new.self) v.place (face_positions v.whole) v.count v.next c.to_unseen-self.result c.in-Some._p left mid new
    (is_marked c.args.marks.now) (is_marked c.set.new.self) c.pass.ensures.contents v.standing
    (passed left mid (drop 1 left) c.in-Some._p c.pass.result c.in-Some.ensures.next c.pass.ensures.next) c.requires.marks c.set.ensures.marked c.to_unseen-self.ensures.unseen c.to_unseen-self.ensures.stands in
    record {
      same = v.same ∙ sym at;
      standing = subst (λ (x : Contents). IsStanding x v.place (face_positions v.whole) new (v.count + 1) c.to_unseen-self.result) (sym at) d.standing;
      kept = λ few. kept_next v.given c.enter.new.places (adjacent_places m v.place (face_positions v.whole)) v.count v.next (omega (arith, few)) (v.kept (omega (arith, few))) d.given c.enter.ensures
          ∙ ap (λ (x : Contents). take (v.count + 1) (adjacent_places x v.place (face_positions v.whole))) (sym at);
    }

pub returns-clause-next : goal.returns-clause-next
unfolding rest
returns-clause-next g c =
    let v = c.args.self.now in
    let m = contents_in v.left in
    let left = face_positions v.left in
    let mid = face_positions c.pass.new.self in
    let new = face_positions c.to_unseen-self.new.ring in
    let at : contents_in c.to_unseen-self.new.ring ≡ m = c.to_unseen-self.ensures.contents ∙ c.pass.ensures.contents in
    let d : StepDone m v.place (face_positions v.whole) v.count v.next c.to_unseen-self.result new (is_marked c.set.new.self)
    = step_done m (contents_in c.pass.new.self) v.place (face_positions v.whole) v.count v.next c.to_unseen-self.result c.in-Some._p left mid new
    (is_marked c.args.marks.now) (is_marked c.set.new.self) c.pass.ensures.contents v.standing
    (passed left mid (drop 1 left) c.in-Some._p c.pass.result c.in-Some.ensures.next c.pass.ensures.next) c.requires.marks c.set.ensures.marked c.to_unseen-self.ensures.unseen c.to_unseen-self.ensures.stands in
    gives_next m (contents_in c.to_unseen-self.new.ring) (contents_in c.pass.new.self) v.place (face_positions v.whole) v.count v.next c.face_in-face.result.0 at c.pass.ensures.contents c.face_in-face.ensures.face d.rest

pub returns-clause-given : goal.returns-clause-given
unfolding given
returns-clause-given g c =
    let v = c.args.self.now in
    let m = contents_in v.left in
    let left = face_positions v.left in
    let mid = face_positions c.pass.new.self in
    let new = face_positions c.to_unseen-self.new.ring in
    let at : contents_in c.to_unseen-self.new.ring ≡ m = c.to_unseen-self.ensures.contents ∙ c.pass.ensures.contents in
    let d : StepDone m v.place (face_positions v.whole) v.count v.next c.to_unseen-self.result new (is_marked c.set.new.self)
    = step_done m (contents_in c.pass.new.self) v.place (face_positions v.whole) v.count v.next c.to_unseen-self.result c.in-Some._p left mid new
    (is_marked c.args.marks.now) (is_marked c.set.new.self) c.pass.ensures.contents v.standing
    (passed left mid (drop 1 left) c.in-Some._p c.pass.result c.in-Some.ensures.next c.pass.ensures.next) c.requires.marks c.set.ensures.marked c.to_unseen-self.ensures.unseen c.to_unseen-self.ensures.stands in
    gave_next m (contents_in c.to_unseen-self.new.ring) (contents_in c.pass.new.self) v.place (face_positions v.whole) v.count v.next c.face_in-face.result.0 at c.pass.ensures.contents c.face_in-face.ensures.face d.given

pub returns-clause-marks : goal.returns-clause-marks
returns-clause-marks g c = λ j.
    let v = c.args.self.now in
    let m = contents_in v.left in
    let left = face_positions v.left in
    let mid = face_positions c.pass.new.self in
    let new = face_positions c.to_unseen-self.new.ring in
    let at : contents_in c.to_unseen-self.new.ring ≡ m = c.to_unseen-self.ensures.contents ∙ c.pass.ensures.contents in
    let d : StepDone m v.place (face_positions v.whole) v.count v.next c.to_unseen-self.result new (is_marked c.set.new.self)
    = step_done m (contents_in c.pass.new.self) v.place (face_positions v.whole) v.count v.next c.to_unseen-self.result c.in-Some._p left mid new
    (is_marked c.args.marks.now) (is_marked c.set.new.self) c.pass.ensures.contents v.standing
    (passed left mid (drop 1 left) c.in-Some._p c.pass.result c.in-Some.ensures.next c.pass.ensures.next) c.requires.marks c.set.ensures.marked c.to_unseen-self.ensures.unseen c.to_unseen-self.ensures.stands in
    d.marks j ∙ ap (λ (x : Contents). has (take (v.count + 1) (adjacent_places x v.place (face_positions v.whole))) j) (sym at)

pub returns-clause-paid : goal.returns-clause-paid
unfolding allowance
returns-clause-paid g c =
    let v = c.args.self.now in
    let m = contents_in v.left in
    let left = face_positions v.left in
    let mid = face_positions c.pass.new.self in
    let new = face_positions c.to_unseen-self.new.ring in
    let same = c.pass.ensures.contents in
    let at : contents_in c.to_unseen-self.new.ring ≡ m = c.to_unseen-self.ensures.contents ∙ same in
    let next = passed left mid (drop 1 left) c.in-Some._p c.pass.result c.in-Some.ensures.next c.pass.ensures.next in
    let cost = passed_some left mid (drop 1 left) c.in-Some._p c.pass.result c.args.steps.now c.pass.new.steps (8 * line_digits m + 66) c.in-Some.ensures.next c.pass.ensures.next c.pass.ensures.cost in
    let digits = ap line_digits same in
    let paid : c.to_unseen-self.new.steps + pass_price m * length new ≤ c.face_in-face.new.steps + (pass_price m * length mid + (12 * line_digits m + 121))
    = subst (λ (x : Contents). c.to_unseen-self.new.steps + pass_price x * length new ≤ c.face_in-face.new.steps + (pass_price x * length mid + (12 * line_digits x + 121))) same c.to_unseen-self.ensures.paid in
    let done = step_paid m left mid new c.in-Some._p c.args.steps.now c.pass.new.steps c.face_in-face.new.steps c.to_unseen-self.new.steps next c.to_unseen-self.ensures.shorter cost.1 (omega (arith, digits, c.face_in-face.ensures.cost)) paid in
    let steps_left = ap (λ (x : Contents). step_price x * length new) at in
    let close_left = ap (λ (x : Contents). pass_price x * length (face_positions v.whole)) at in
    omega (arith, done, steps_left, close_left)
