use Rattle.std.proofs.Common.{arith, ap, ◌∙◌, ◌+◌}
use Rattle.topo_base.specs.Script.{Item}
use Rattle.file_laws.specs.MapOfFile.{signed_at}
use Rattle.navigate.specs.IslandWalk.{contents_in, items_between, rest, allowance}
use Rattle.navigate.proofs.IslandLaws.{hole_first, node_first, none_left, island_paid}
use Rattle.navigate.proofs.inside.IslandWalk.step.Goals as goal

pub returns-then-self-clause-next : goal.returns-then-self-clause-next
unfolding rest
returns-then-self-clause-next g c =
    let v = c.args.self.now in
    let m = contents_in v in
    hole_first m v.hole v.end v.node v.last c.edge_at.result c.if-self.true v.holes (c.edge_at.ensures.edge ∙ ap (signed_at m) c.start_at-start.ensures.start)

pub returns-then-self-clause-paid : goal.returns-then-self-clause-paid
unfolding rest allowance
returns-then-self-clause-paid g c =
    let v = c.args.self.now in
    let m = contents_in v in
    let next = hole_first m v.hole v.end v.node v.last c.edge_at.result c.if-self.true v.holes (c.edge_at.ensures.edge ∙ ap (signed_at m) c.start_at-start.ensures.start) in
    island_paid m (items_between m v.hole v.end v.node v.last) (items_between m (v.hole + 1) v.end v.node v.last) (Item.Signed_edge c.edge_at.result) c.args.steps.now c.edge_at.new.steps next
    (omega (arith, c.start_at-start.ensures.cost, c.edge_at.ensures.cost))

pub returns-then-self-2-clause-next : goal.returns-then-self-2-clause-next
unfolding rest
returns-then-self-2-clause-next g c =
    let v = c.args.self.now in
    node_first (contents_in v) v.hole v.end v.node v.last c.isolated_node-node.result.0 (omega (arith, c.if-self.false)) c.if-self-2.true c.isolated_node-node.ensures.node

pub returns-then-self-2-clause-paid : goal.returns-then-self-2-clause-paid
unfolding rest allowance
returns-then-self-2-clause-paid g c =
    let v = c.args.self.now in
    let m = contents_in v in
    let next = node_first m v.hole v.end v.node v.last c.isolated_node-node.result.0 (omega (arith, c.if-self.false)) c.if-self-2.true c.isolated_node-node.ensures.node in
    island_paid m (items_between m v.hole v.end v.node v.last) (items_between m v.hole v.end (v.node + 1) v.last) (Item.Island_node c.isolated_node-node.result.0) c.args.steps.now c.isolated_node-node.new.steps next
    (omega (arith, c.isolated_node-node.ensures.cost))

pub returns-clause-next : goal.returns-clause-next
unfolding rest
returns-clause-next g c =
    let v = c.args.self.now in
    none_left (contents_in v) v.hole v.end v.node v.last (omega (arith, c.if-self.false)) (omega (arith, c.if-self-2.false))

pub returns-clause-end : goal.returns-clause-end
unfolding rest
returns-clause-end g c = λ _.
    let v = c.args.self.now in
    none_left (contents_in v) v.hole v.end v.node v.last (omega (arith, c.if-self.false)) (omega (arith, c.if-self-2.false))
