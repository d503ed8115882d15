use Rattle.std.proofs.Common.{◌∙◌, ap, length, arith}
use Rattle.topo_base.specs.SignedEdge.{edge_of}
use Rattle.spanning_pair.specs.Rotations.{next_dart, node_row}
use Rattle.spanning_pair.proofs.ComponentDarts.{dart_starts}
use Rattle.spanning_pair.proofs.Open.{pairs_of_tour, tour_below}
use Rattle.spanning_pair.proofs.PlaneTour.{nests_exactly_where_plane, never_crossed, crossed_not_plane}
use Rattle.spanning_pair.proofs.RotationDarts.{numbered_system}
use Rattle.spanning_pair.proofs.Unique.{the_tour}
use Rattle.spanning_pair.proofs.tour.Goals as goal

pub crossing-requires-clause-pairs : goal.crossing-requires-clause-pairs
crossing-requires-clause-pairs c =
    rw (c.deref.ensures.value, c.deref-2.ensures.value, c.deref-3.ensures.value)
    (pairs_of_tour (length c.args.rotation.now.edges) (next_dart c.args.rotation.now) (node_row c.args.rotation.now) c.args.starts.now
    c.in-Ok.tour.darts.items c.in-Ok.tour.tree.items c.in-Ok.tour.first.items c.in-Ok.tour.starts.items c.in-Ok.ensures.tour)

pub returns-in-Ok-None-clause-tour : goal.returns-in-Ok-None-clause-tour
returns-in-Ok-None-clause-tour c =
    the_tour (length c.args.rotation.now.edges) (next_dart c.args.rotation.now) (node_row c.args.rotation.now) c.args.starts.now
    c.in-Ok.tour.darts.items c.in-Ok.tour.tree.items c.in-Ok.tour.first.items c.in-Ok.tour.starts.items c.in-Ok.ensures.tour

pub id-requires : goal.id-requires
id-requires c =
    let r = c.args.rotation.now in
    let is = c.in-Ok.ensures.rotation in
    let f = rw c.in-Ok-Some.field-0-is at c.in-Ok-Some.ensures in
    let g = rw (c.deref.ensures.value, c.deref-2.ensures.value) at f in
    let below = tour_below (length r.edges) (next_dart r) (node_row r) c.args.starts.now
    c.in-Ok.tour.darts.items c.in-Ok.tour.tree.items c.in-Ok.tour.first.items c.in-Ok.tour.starts.items c.in-Ok.ensures.tour
    (numbered_system r is).rotation (dart_starts r is c.args.starts.now c.requires.starts) g.end (omega (arith, g.ends_later, g.within)) in
    rw (c.in-Ok-Some.dart-is, g.closed) below

pub returns-in-Ok-None-clause-plane : goal.returns-in-Ok-None-clause-plane
returns-in-Ok-None-clause-plane c =
    let nested = rw c.in-Ok-None.field-0-is at c.in-Ok-None.ensures in
    (nests_exactly_where_plane c.args.rotation.now c.in-Ok.ensures.rotation c.args.starts.now c.requires.starts
    c.in-Ok.tour.darts.items c.in-Ok.tour.tree.items c.in-Ok.tour.first.items c.in-Ok.tour.starts.items c.in-Ok.ensures.tour).0
    (rw (c.deref.ensures.value, c.deref-2.ensures.value) at nested)

pub returns-in-Ok-Some-clause-never_crossed : goal.returns-in-Ok-Some-clause-never_crossed
returns-in-Ok-Some-clause-never_crossed c plane =
    let f = rw c.in-Ok-Some.field-0-is at c.in-Ok-Some.ensures in
    absurd (never_crossed c.args.rotation.now c.in-Ok.ensures.rotation c.args.starts.now c.requires.starts
    c.in-Ok.tour.darts.items c.in-Ok.tour.tree.items c.in-Ok.tour.first.items c.in-Ok.tour.starts.items c.in-Ok.ensures.tour plane c.in-Ok-Some.dart
    (rw (c.deref.ensures.value, c.deref-2.ensures.value) at f))

pub returns-in-Ok-Some-clause-fault : goal.returns-in-Ok-Some-clause-fault
returns-in-Ok-Some-clause-fault c =
    let f = rw c.in-Ok-Some.field-0-is at c.in-Ok-Some.ensures in (
      c.in-Ok.tour.darts.items,
      c.in-Ok.tour.tree.items,
      c.in-Ok.tour.first.items,
      c.in-Ok.tour.starts.items,
      c.in-Ok-Some.dart,
      the_tour (length c.args.rotation.now.edges) (next_dart c.args.rotation.now) (node_row c.args.rotation.now) c.args.starts.now
          c.in-Ok.tour.darts.items c.in-Ok.tour.tree.items c.in-Ok.tour.first.items c.in-Ok.tour.starts.items c.in-Ok.ensures.tour,
      rw (c.deref.ensures.value, c.deref-2.ensures.value) at f,
      c.edge.ensures ∙ ap edge_of c.id.ensures,
      rw (c.edge.ensures ∙ ap edge_of c.id.ensures)
          (crossed_not_plane c.args.rotation.now c.in-Ok.ensures.rotation c.args.starts.now c.requires.starts
          c.in-Ok.tour.darts.items c.in-Ok.tour.tree.items c.in-Ok.tour.first.items c.in-Ok.tour.starts.items c.in-Ok.ensures.tour c.in-Ok-Some.dart
          (rw (c.deref.ensures.value, c.deref-2.ensures.value) at f)),
    )
