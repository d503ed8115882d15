use Rattle.std.proofs.Common.{[], ◌∷◌, ◌++◌, ap, ◌∙◌}
use Rattle.plane_model.specs.declared.rows.EdgeRow.{EdgeRow}
use Rattle.map_maker.specs.Grid.{closed_edge}
use Rattle.map_maker.proofs.Adding.{one_more}
use Rattle.map_maker.proofs.rows.push_closed_edges.Goals as goal

pub loop-q-preserved : goal.loop-q-preserved
loop-q-preserved c =
    one_more (closed_edge c.args.n) 1 c.loop-q.q _ _ _ c.loop-q.invariant (c.in_ok-push.ensures ∙ ap (λ (r : EdgeRow). c.loop-q.edges ++ r ∷ []) c.closed_edge.ensures)
