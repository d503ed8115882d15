use Rattle.std.proofs.Common.{[], ◌∷◌, ◌++◌, ap, ◌∙◌}
use Rattle.plane_model.specs.declared.rows.EdgeRow.{EdgeRow}
use Rattle.map_maker.specs.Grid.{east_edge, place_of}
use Rattle.map_maker.proofs.Adding.{one_place_more}
use Rattle.map_maker.proofs.rows.push_east_edges.Goals as goal

pub loop-i-preserved : goal.loop-i-preserved
loop-i-preserved c =
    one_place_more (east_edge c.args.n) (place_of c.args.n) c.loop-i.i _ _ _ c.loop-i.invariant
    (c.in_ok-push.ensures ∙ ap (λ (r : EdgeRow). c.loop-i.edges ++ r ∷ []) (c.east_edge.ensures ∙ ap (east_edge c.args.n) c.numbered-place.ensures))
