use Rattle.std.proofs.Common.{length, ap, arith}
use Rattle.navigate.specs.Several.{edges_in}
use Rattle.navigate.specs.FaceWalk.{face_positions, rest, allowance}
use Rattle.navigate.proofs.FaceLaws.{face_end, face_rest-none}
use Rattle.navigate.proofs.FaceSides.{face_several, some_edges, several_paid}
use Rattle.navigate.proofs.face_rings.FaceWalk.several.Goals as goal

pub returns-in_default-clause-end : goal.returns-in_default-clause-end
returns-in_default-clause-end g c = λ _. face_rest-none c.args.self.now (face_end c.args.self.now c.in_default.ensures.next)

pub returns-clause-gives : goal.returns-clause-gives
unfolding face_positions rest
returns-clause-gives g c =
    let s = c.several.ensures in
    face_several c.args.self.now (edges_in c.several.new.edges) c.several.new.self _ s.contents s.gives c.settle.ensures.positions

pub returns-clause-end : goal.returns-clause-end
returns-clause-end g c = λ e.
    let some = some_edges c.args.self.now.ring _ _ (edges_in c.several.new.edges) c.in-Some.ensures.next c.several.ensures.end in
    let n = ap length e in
    absurd (omega (arith, n, some))

pub returns-clause-free : goal.returns-clause-free
returns-clause-free g c = λ e.
    let some = some_edges c.args.self.now.ring _ _ (edges_in c.several.new.edges) c.in-Some.ensures.next c.several.ensures.end in
    let n = ap length e in
    absurd (omega (arith, n, some))

pub returns-clause-paid : goal.returns-clause-paid
unfolding face_positions rest allowance
returns-clause-paid g c =
    let w = c.args.self.now in
    let s = c.several.ensures in
    let edges = edges_in c.several.new.edges in
    let some = some_edges w.ring _ _ edges c.in-Some.ensures.next s.end in
    let left = face_several w edges c.several.new.self _ s.contents s.gives c.settle.ensures.positions in
    several_paid w edges _ c.several.new.self c.args.steps.now c.several.new.steps c.settle.new.steps s.contents s.gives left some s.paid c.settle.ensures.cost
