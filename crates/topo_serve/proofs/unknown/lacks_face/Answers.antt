use Rattle.std.proofs.Common.{None, sym, arith}
use Rattle.id_names.specs.Views.{ids_of}
use Rattle.pemb_file.specs.Served.{contents_of_view}
use Rattle.navigate.proofs.Facts.{known_face}
use Rattle.topo_serve.proofs.unknown.lacks_face.Goals as goal

pub returns : goal.returns
returns c past =
    let some = c.is_past.ensures.positive past in
    sym (known_face (contents_of_view c.args.served.now) c.args.served.now.whole (ids_of c.faces.result.now) c.args.face.0 None c.faces.ensures (λ e. absurd (omega (arith, some, e))) (c.is_past.ensures.missing past))
