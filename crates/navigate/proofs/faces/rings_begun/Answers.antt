use Rattle.std.proofs.Common.{arith}
use Rattle.pemb_file.specs.Served.{contents_of_view}
use Rattle.navigate.specs.FirstEdges.{edges_in}
use Rattle.navigate.specs.Holes.{components_between, outer_positions}
use Rattle.navigate.proofs.Facts.{digits_components}
use Rattle.navigate.proofs.HoleLaws.{AreAt, in_order}
use Rattle.navigate.proofs.BegunWalks.{face_begun, face_begun_paid}
use Rattle.navigate.proofs.faces.rings_begun.Goals as goal

pub returns-clause-list : goal.returns-clause-list
returns-clause-list g c =
    let m = contents_of_view c.args.served in
    let hole = c.components_below-hole in
    let end = c.components_to-end in
    let ring = c.shell_walk_begun-ring in
    let at : AreAt m c.args.place hole.result end.result = record {
      within = end.ensures.within;
      before_from = hole.ensures.before;
      from_from = hole.ensures.from;
      before_to = end.ensures.before;
      from_to = end.ensures.from;
    } in
    face_begun m c.args.served.whole c.settled.result ring.result (edges_in ring.new.edges) c.args.place hole.result end.result c.settled.ensures.contents ring.ensures.contents
    c.requires (in_order m c.args.place hole.result end.result hole.ensures.within at) at c.settled.ensures.positions ring.ensures.list

pub returns-clause-least : goal.returns-clause-least
returns-clause-least g c =
    omega (arith, c.components_below-hole.ensures.grows, c.components_to-end.ensures.grows, c.shell_walk_begun-ring.ensures.least, c.settled.ensures.grows)

pub returns-clause-paid : goal.returns-clause-paid
returns-clause-paid g c =
    let m = contents_of_view c.args.served in
    let hole = c.components_below-hole in
    let end = c.components_to-end in
    let ring = c.shell_walk_begun-ring in
    let few = digits_components m c.args.served.whole in
    face_begun_paid m c.args.served.whole c.settled.result ring.result (edges_in ring.new.edges) (outer_positions m (components_between m hole.result end.result)) c.args.steps.now end.new.steps ring.new.steps c.settled.new.steps
    c.settled.ensures.contents ring.ensures.contents c.settled.ensures.positions (omega (arith, few, hole.ensures.cost, end.ensures.cost)) ring.ensures.paid c.settled.ensures.cost
