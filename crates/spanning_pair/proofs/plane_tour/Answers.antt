use Rattle.std.proofs.Common.{length}
use Rattle.spanning_pair.specs.Rotations.{next_dart, node_row}
use Rattle.spanning_pair.proofs.PlaneTour.{nests_exactly_where_plane}
use Rattle.spanning_pair.proofs.Unique.{the_tour}
use Rattle.spanning_pair.proofs.plane_tour.Goals as goal

pub returns-clause-tour : goal.returns-clause-tour
returns-clause-tour c =
    let t = c.in_ok-tour.tour in
    the_tour (length c.args.rotation.now.edges) (next_dart c.args.rotation.now) (node_row c.args.rotation.now) c.args.starts.now
    t.darts.items t.tree.items t.first.items t.starts.items c.in_ok-tour.ensures.tour

pub returns-clause-nested : goal.returns-clause-nested
returns-clause-nested c =
    let t = c.in_ok-tour.tour in
    (nests_exactly_where_plane c.args.rotation.now c.in_ok-tour.ensures.rotation c.args.starts.now c.requires.starts
    t.darts.items t.tree.items t.first.items t.starts.items c.in_ok-tour.ensures.tour).1 c.requires.plane
