use Rattle.std.proofs.Common.{ℕ, ◌+◌, [], ◌∷◌, ◌++◌, ap, ◌∙◌, None}
use Rattle.map_maker.specs.Grid.{grid_node, place_of, node_id}
use Rattle.map_maker.proofs.Adding.{one_place_more}
use Rattle.map_maker.proofs.rows.push_grid_nodes.Goals as goal

pub loop-i-preserved : goal.loop-i-preserved
loop-i-preserved c =
    one_place_more (grid_node c.args.n) (place_of (c.args.n + 1)) c.loop-i.i _ _ _ c.loop-i.invariant
    (c.in_ok-push.ensures ∙ ap (λ (id : ℕ). c.loop-i.nodes ++ (record { id = id; face = None }) ∷ []) (c.node_id.ensures ∙ ap (node_id c.args.n) c.numbered-place.ensures))
