use Rattle.std.proofs.Common.{◌-◌, arith}
use Rattle.pemb_file.specs.Served.{contents_of_view}
use Rattle.navigate.proofs.Facts.{w}
use Rattle.table_dump.proofs.AtRanks.{joined_is, face_none, face_some}
use Rattle.table_dump.proofs.rows.enclosing_face.Goals as goal

pub overflow_sub-joined : goal.overflow_sub-joined
overflow_sub-joined g c =
    let s = (w (contents_of_view c.args.served) c.args.served.whole).sizes.nodes in
    omega (arith, s, c.counts-counts.ensures.nodes, c.counts-counts.ensures.isolated)

pub isolated-place-requires : goal.isolated-place-requires
isolated-place-requires g c =
    let s = (w (contents_of_view c.args.served) c.args.served.whole).sizes.nodes in
    omega (arith, s, c.requires, c.counts-counts.ensures.nodes, c.counts-counts.ensures.isolated)

pub face_in-requires : goal.face_in-requires
face_in-requires g c =
    let m = contents_of_view c.args.served in
    let s = (w m c.args.served.whole).sizes.nodes in
    let low = (w m c.args.served.whole).isolated (c.args.node - (c.counts-counts.result.nodes - c.counts-counts.result.isolated)) (omega (arith, s, c.requires, c.if-node-joined.false, c.counts-counts.ensures.nodes, c.counts-counts.ensures.isolated)) in
    omega (arith, low, c.isolated-place.ensures.place)

pub returns-then-node-joined-clause-face : goal.returns-then-node-joined-clause-face
returns-then-node-joined-clause-face g c =
    let m = contents_of_view c.args.served in
    face_none m c.args.node _ (joined_is m _ _ c.counts-counts.ensures.nodes c.counts-counts.ensures.isolated) c.if-node-joined.true

pub returns-clause-face : goal.returns-clause-face
returns-clause-face g c =
    let m = contents_of_view c.args.served in
    face_some m c.args.node _ c.isolated-place.result c.face_in.result.0 (joined_is m _ _ c.counts-counts.ensures.nodes c.counts-counts.ensures.isolated) c.if-node-joined.false c.isolated-place.ensures.place c.face_in.ensures.face
