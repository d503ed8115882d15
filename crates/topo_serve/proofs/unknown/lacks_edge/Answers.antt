use Rattle.std.proofs.Common.{None, sym}
use Rattle.id_names.specs.Views.{ids_of}
use Rattle.pemb_file.specs.Served.{contents_of_view}
use Rattle.navigate.proofs.Facts.{edge_known}
use Rattle.topo_serve.proofs.unknown.lacks_edge.Goals as goal

pub returns : goal.returns
returns c past = sym (edge_known (contents_of_view c.args.served.now) (ids_of c.edges.result.now) c.edge.result.0 c.args.edge None c.edges.ensures c.edge.ensures (c.is_past.ensures.missing past))
