use Rattle.std.proofs.Common.{◌≡◌, ◌+◌, ◌∙◌, sym, ap, subst, length, arith, Some}
use Rattle.std.specs.Prelude.{not}
use Rattle.euler_check.proofs.LeastFailing.{LeastTo, least_skip, least_next, not_plane-none, not_plane-some}
use Rattle.euler_check.proofs.euler_counts.EulerCounts.first_not_plane.Goals as goal
use Rattle.euler_check.proofs.euler_counts.EulerCounts.first_not_plane.Goals.{then-not-is_plane, else-not-is_plane}

pub loop-row-preserved : goal.loop-row-preserved
loop-row-preserved c =
    let r = c.args.self.now.rotation.now in
    elim c.if-not-is_plane.branch [
      | then-not-is_plane w ↦ subst (LeastTo r (c.loop-row.row + 1)) (sym (w.least-is ∙ ap Some w.lesser.ensures)) (least_next r c.loop-row.row c.loop-row.least (ap not (sym c.is_plane.ensures ∙ w.if-not-is_plane.true)) c.loop-row.invariant)
      | else-not-is_plane w ↦ subst (LeastTo r (c.loop-row.row + 1)) (sym w.least-is) (least_skip r c.loop-row.row c.loop-row.least (ap not (sym c.is_plane.ensures ∙ w.if-not-is_plane.false)) c.loop-row.invariant)
    ]

pub returns-in_err-least : goal.returns-in_err-least
returns-in_err-least c =
    let r = c.args.self.now.rotation.now in
    let whole : c.loop-row.row ≡ length r.edges = (let a = c.edges-row-end.ensures.edges in let b = c.loop-row-test.false in let d = c.loop-row.auto.row-end in omega arith) in
    c.from_residual.ensures ∙ sym (not_plane-none r c.edges-row-end.ensures.rotation c.loop-row.row c.loop-row.least whole c.in_err-least.was c.loop-row.invariant)

pub returns : goal.returns
returns c =
    let r = c.args.self.now.rotation.now in
    let whole : c.loop-row.row ≡ length r.edges = (let a = c.edges-row-end.ensures.edges in let b = c.loop-row-test.false in let d = c.loop-row.auto.row-end in omega arith) in
    ap Some c.refusal.ensures ∙ sym (not_plane-some r c.edges-row-end.ensures.rotation c.loop-row.row c.loop-row.least c.in_ok-least.field-0 whole c.in_ok-least.was c.loop-row.invariant)
