use Rattle.std.specs.Prelude.{slice_index, slice_set}
use Rattle.std.proofs.Common.{inl, inr, refl, ap, ◌∙◌}
use Rattle.map_build.proofs.Filling.{filled_on}
use Rattle.map_build.proofs.by_number.node_ids.Goals as goal
use Rattle.map_build.proofs.by_number.node_ids.Goals.{then-index-eq0, else-index-eq0}

pub loop-p-preserved : goal.loop-p-preserved
loop-p-preserved c = elim c.if-index-eq0.branch [
  | then-index-eq0 w ↦ filled_on _ _ _ _ _ c.requires.agree c.loop-p.p _ _ c.loop-p-test.true (inl (refl, ap (λ v. v.items) w.ids-is ∙ ap (slice_set c.loop-p.ids.items (slice_index c.args.numbers.now c.loop-p.p)) w.node_id.ensures)) c.loop-p.invariant
  | else-index-eq0 w ↦ filled_on _ _ _ _ _ c.requires.agree c.loop-p.p _ _ c.loop-p-test.true (inr (ap (λ v. v.items) w.ids-is, λ _. (c.index.result.now, c.index.ensures, w.if-index-eq0.false))) c.loop-p.invariant
]
