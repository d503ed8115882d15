use Rattle.std.proofs.Common.{◌+◌, ◌*◌, [], ◌∷◌, ◌++◌, ap, ◌∙◌, Some}
use Rattle.map_maker.specs.Grid.{isolated_node}
use Rattle.map_maker.proofs.Adding.{one_more}
use Rattle.map_maker.proofs.rows.push_isolated_nodes.Goals as goal

pub loop-q-preserved : goal.loop-q-preserved
loop-q-preserved c =
    one_more (isolated_node c.args.n) 1 c.loop-q.q _ _ _ c.loop-q.invariant
    (c.in_ok-push.ensures
    ∙ (λ i. c.loop-q.nodes ++ (record { id = c.from.ensures i; face = Some (c.from-in-loop-q.ensures i) }) ∷ [])
    ∙ ap (λ k. c.loop-q.nodes ++ (record { id = (c.args.n + 1) * (c.args.n + 1) + k + (1 + c.loop-q.q); face = Some (11 * (1 + c.loop-q.q)) }) ∷ []) c.closed_count.ensures)
