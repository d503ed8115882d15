use Rattle.std.proofs.Common.{[], ◌∷◌, ◌++◌, ap, ◌∙◌}
use Rattle.map_maker.specs.Grid.{cell}
use Rattle.map_maker.proofs.Adding.{one_more}
use Rattle.map_maker.proofs.rows.push_faces.Goals as goal

pub loop-f-preserved : goal.loop-f-preserved
loop-f-preserved c =
    one_more cell 1 c.loop-f.f _ _ _ c.loop-f.invariant (c.in_ok-push.ensures.items ∙ ap (λ id. c.loop-f.faces.items ++ cell id ∷ []) c.from.ensures)
