use Rattle.std.proofs.Common.{ap, ◌∙◌}
use Rattle.map_build.proofs.Standings.{node_stands, node_passed}
use Rattle.map_build.proofs.places.FacePlaces.of_nodes.Goals.{in-Some+in_ok-push, in_default}
use Rattle.map_build.proofs.places.FacePlaces.of_nodes.Goals as goal

pub loop-row-preserved : goal.loop-row-preserved
loop-row-preserved c =
    let faces = c.args.self.now.faces.now in
    let nodes = c.args.nodes.now in
    let node = c.row-node.result in
    let k = c.loop-row.row in
    let before = c.loop-row.standing.items in
    elim c.match-node.branch [
      | in-Some+in_ok-push w ↦ node_stands faces nodes k node w.in-Some.face w.place.result before c.match-node.standing.items c.row-node.ensures w.in-Some.is w.place.ensures c.loop-row.invariant (ap (λ v. v.items) w.standing-is ∙ w.in_ok-push.ensures.items)
      | in_default w ↦ node_passed faces nodes k node before c.match-node.standing.items c.row-node.ensures w.in_default.is c.loop-row.invariant (ap (λ v. v.items) w.standing-is)
    ]
