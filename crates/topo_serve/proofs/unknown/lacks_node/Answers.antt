use Rattle.std.proofs.Common.{None, sym}
use Rattle.id_names.specs.Views.{ids_of}
use Rattle.pemb_file.specs.Served.{contents_of_view}
use Rattle.navigate.proofs.Facts.{node_known}
use Rattle.topo_serve.proofs.unknown.lacks_node.Goals as goal

pub returns : goal.returns
returns c past = sym (node_known (contents_of_view c.args.served.now) (ids_of c.nodes.result.now) c.args.node.0 None c.nodes.ensures (c.is_past.ensures.missing past))
