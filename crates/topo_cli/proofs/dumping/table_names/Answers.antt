use Rattle.topo_cli.proofs.dumping.table_names.Goals as goal

pub returns : goal.returns
returns c = record {
  node = c.in_ok-node.ensures.ok;
  edge = c.in_ok-edge.ensures.ok;
  face = c.in_ok-face.ensures.ok;
  region = c.in_ok-region.ensures.ok;
  member = c.in_ok-member.ensures.ok;
}
