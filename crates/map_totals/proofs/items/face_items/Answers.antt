use Rattle.std.proofs.Common.{ap, arith, length}
use Rattle.pemb_file.specs.Served.{contents_of_view}
use Rattle.map_totals.proofs.Few.{face-few}
use Rattle.map_totals.proofs.items.face_items.Goals as goal

pub count_face-requires : goal.count_face-requires
count_face-requires g c =
    let few = face-few (contents_of_view c.args.served) c.args.served.whole c.args.face.0 in
    let same = ap length c.in-Some.ensures.list in
    omega (arith, few, same)
