use Rattle.std.proofs.Common.{arith}
use Rattle.map_build.specs.DartRows.{key_of_dart}
use Rattle.map_build.proofs.Standings.{component_more}
use Rattle.map_build.proofs.places.components.Goals as goal

pub loop-component-preserved : goal.loop-component-preserved
loop-component-preserved c =
    component_more c.args.places.now c.args.starts.now (key_of_dart c.args.edges.now) c.loop-component.component c.edge_key.result c.loop-component.standing.items c.push.new.self.items
    (let a = c.loop-component-test.true in let b = c.requires.many in omega (arith, a, b)) c.edge_key.ensures c.loop-component.invariant c.in_ok-push.ensures.items
