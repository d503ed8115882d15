use Rattle.std.specs.Prelude.{◌-◌, slice_index, slice_set}
use Rattle.std.proofs.Common.{inl, inr, ap, ◌∙◌}
use Rattle.std.proofs.lemmas.Bool.{lt-ltb, le-ltb, both_ways}
use Rattle.map_build.proofs.Filling.{filled_on}
use Rattle.map_build.proofs.by_number.face_ids.Goals as goal
use Rattle.map_build.proofs.by_number.face_ids.Goals.{then-rings-p-gt0+then-index-eq0, then-rings-p-gt0+else-index-eq0, else-rings-p-gt0}

pub loop-p-preserved : goal.loop-p-preserved
loop-p-preserved c = elim c.if-rings-p-gt0.branch [
  | then-rings-p-gt0+then-index-eq0 w ↦ filled_on _ _ _ _ _ c.requires.agree c.loop-p.p _ _ c.loop-p-test.true (inl (lt-ltb _ _ w.if-rings-p-gt0.true, ap (λ v. v.items) w.ids-is ∙ ap (slice_set c.loop-p.ids.items (slice_index c.args.rings.now c.loop-p.p - 1)) w.face_id.ensures)) c.loop-p.invariant
  | then-rings-p-gt0+else-index-eq0 w ↦ filled_on _ _ _ _ _ c.requires.agree c.loop-p.p _ _ c.loop-p-test.true (inr (ap (λ v. v.items) w.ids-is, λ _. (w.index.result.now, w.index.ensures, w.if-index-eq0.false))) c.loop-p.invariant
  | else-rings-p-gt0 w ↦ filled_on _ _ _ _ _ c.requires.agree c.loop-p.p _ _ c.loop-p-test.true (inr (ap (λ v. v.items) w.ids-is, λ counts. absurd (both_ways _ (le-ltb _ _ w.if-rings-p-gt0.false) counts))) c.loop-p.invariant
]
