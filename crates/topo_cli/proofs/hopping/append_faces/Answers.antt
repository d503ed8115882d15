use Rattle.std.specs.Prelude.{if◌then◌else◌}
use Rattle.std.proofs.Common.{◌+◌, ◌≤◌, ◌∙◌, ap, arith, length, refl, subst, sym}
use Rattle.face_hops.specs.HopWalk.{is_begun, rest}
use Rattle.topo_cli.proofs.HopLine.{one_read, one_more}
use Rattle.topo_cli.proofs.hopping.append_faces.Goals as goal

pub loop-face-preserved : goal.loop-face-preserved
loop-face-preserved g c =
    let i = c.loop-face.invariant in
    let e = c.in-Some.ensures in
    let long = ap length e.next in
    record {
      text = one_more c.loop-face.line.items c.append_number.new.text.items (rest c.loop-face.walk) (rest c.step.new.self) c.in-Some.face.0 c.in_ok-append_number.ensures e.next ∙ i.text;
      least = subst (λ b. c.args.steps.now + length (rest c.args.walk.now) ≤ c.step.new.steps + length (rest c.step.new.self) + (if b then 1 else 0)) (sym e.begun) (one_read (is_begun c.loop-face.walk) _ _ _ _ _ _ long (λ begun. e.least begun refl) e.grows i.least);
      grows = omega (arith, i.grows, e.grows);
      most = omega (arith, i.most, e.paid);
    }
