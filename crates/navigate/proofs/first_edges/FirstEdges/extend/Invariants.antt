use Rattle.std.proofs.Common.{◌≡◌, ◌+◌, ◌++◌, take}
use Rattle.navigate.specs.FirstEdges.{edges_in}
use Rattle.navigate.proofs.first_edges.FirstEdges.extend.Given as goal

abbrev pub invariant-loop-edge : goal.invariant-loop-edge
invariant-loop-edge l = record {
  given : edges_in l.self ≡ edges_in l.fn.self ++ take l.edge-index l.edges;
  count : l.self.count ≡ l.fn.self.count + l.edge-index;
}
