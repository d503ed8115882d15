use Rattle.std.proofs.Common.{[], ◌∷◌, ◌++◌, ap, ◌∙◌, None}
use Rattle.map_maker.specs.Grid.{closed_node}
use Rattle.map_maker.proofs.Adding.{one_more}
use Rattle.map_maker.proofs.rows.push_closed_nodes.Goals as goal

pub loop-q-preserved : goal.loop-q-preserved
loop-q-preserved c =
    one_more (closed_node c.args.n) 1 c.loop-q.q _ _ _ c.loop-q.invariant
    (c.in_ok-push.ensures ∙ ap (λ id. c.loop-q.nodes ++ (record { id = id; face = None }) ∷ []) c.from.ensures)
