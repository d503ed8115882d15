use Rattle.std.proofs.Common.{◌∙◌}
use Rattle.topo_base.specs.declared.refusal.Table.TheVariants as table
use Rattle.rotation_check.proofs.Parts.{apart_from}
use Rattle.rotation_check.proofs.checking.number_darts.Goals as goal

pub nodes_of_darts-requires-clause-distinct : goal.nodes_of_darts-requires-clause-distinct
nodes_of_darts-requires-clause-distinct c = apart_from table.Edge _ c.deref-2.result.now (c.deref-2.ensures.value ∙ c.in_ok-edge_ids.ensures) c.in_ok-edges.ensures.fine

pub nexts_of_darts-requires-clause-distinct : goal.nexts_of_darts-requires-clause-distinct
nexts_of_darts-requires-clause-distinct c = apart_from table.Edge _ c.deref-2.result.now (c.deref-2.ensures.value ∙ c.in_ok-edge_ids.ensures) c.in_ok-edges.ensures.fine

pub returns-clause-numbered : goal.returns-clause-numbered
returns-clause-numbered c = record {
  in_range = c.requires;
  node_ids = apart_from table.Node _ c.deref.result.now (c.deref.ensures.value ∙ c.in_ok-node_ids.ensures) c.in_ok-nodes.ensures.fine;
  edge_ids = apart_from table.Edge _ c.deref-2.result.now (c.deref-2.ensures.value ∙ c.in_ok-edge_ids.ensures) c.in_ok-edges.ensures.fine;
  next_darts = c.in_ok-next.ensures.nexts;
  node_rows = c.in_ok-node.ensures.nodes;
}
