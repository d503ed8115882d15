use Rattle.std.proofs.Common.{arith, ◌+◌, ◌*◌}
use Rattle.navigate.specs.Bound.{line_digits}
use Rattle.pemb_file.specs.Served.{contents_of_view}
use Rattle.navigate.specs.Holes.{components_between, outer_positions}
use Rattle.navigate.proofs.Facts.{digits_components}
use Rattle.navigate.proofs.HoleLaws.{AreAt, in_order}
use Rattle.navigate.proofs.ShellLaws.{face_list, face_longer}
use Rattle.navigate.proofs.faces.rings_at.Goals as goal

pub returns-clause-list : goal.returns-clause-list
returns-clause-list g c =
    let m = contents_of_view c.args.served in
    let at : AreAt m c.args.place c.components_below-hole.result c.components_to-end.result = record {
      within = c.components_to-end.ensures.within;
      before_from = c.components_below-hole.ensures.before;
      from_from = c.components_below-hole.ensures.from;
      before_to = c.components_to-end.ensures.before;
      from_to = c.components_to-end.ensures.from;
    } in
    face_list m c.args.served.whole c.settled.result c.shell_walk-ring.result c.args.place c.components_below-hole.result c.components_to-end.result c.settled.ensures.contents c.shell_walk-ring.ensures.contents
    c.requires (in_order m c.args.place c.components_below-hole.result c.components_to-end.result c.components_below-hole.ensures.within at) at c.settled.ensures.positions c.shell_walk-ring.ensures.list

pub returns-clause-cost : goal.returns-clause-cost
returns-clause-cost g c =
    let m = contents_of_view c.args.served in
    let cost = face_longer m c.args.served.whole c.settled.result c.shell_walk-ring.result (outer_positions m (components_between m c.components_below-hole.result c.components_to-end.result)) (c.components_to-end.new.steps + (6 * line_digits m + 24)) c.shell_walk-ring.new.steps
    c.settled.ensures.contents c.shell_walk-ring.ensures.contents c.settled.ensures.positions (omega (arith, c.shell_walk-ring.ensures.cost)) in
    let few = digits_components m c.args.served.whole in
    omega (arith, cost, few, c.components_below-hole.ensures.cost, c.components_to-end.ensures.cost, c.settled.ensures.cost)
