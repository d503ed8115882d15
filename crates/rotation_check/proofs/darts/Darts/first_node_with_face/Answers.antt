use Rattle.std.proofs.Common.{◌≡◌, ◌∙◌, get_or, sym, ap}
use Rattle.std.proofs.lemmas.Option.{get_or_from_slice_get, slice_get_within}
use Rattle.std.specs.Prelude.{nat_lt}
use Rattle.std.proofs.lemmas.Bool.{both_ways}
use Rattle.std.specs.Cmp.{booleans_Decides}
use Rattle.plane_model.specs.PlaneMap.{map_of}
use Rattle.plane_model.specs.Rows.{rows_of}
use Rattle.plane_model.specs.Faults.{node_with_face}
use Rattle.rotation_check.proofs.FirstIn.{first_in-here, first_in-drop}
use Rattle.rotation_check.proofs.Leaving.{face_loop, face_fits, face_fits_not}
use Rattle.rotation_check.proofs.darts.Darts.first_node_with_face.Goals as goal

pub returns-then-is_some-counts : goal.returns-then-is_some-counts
returns-then-is_some-counts c =
    let t = rows_of c.args.self.now.tables.now in
    let k = c.loop-row.row in
    let node = c.row-node.result in
    let within = slice_get_within t.nodes k node c.row-node.ensures in
    let same = get_or_from_slice_get t.nodes k node node c.row-node.ensures in
    let count = face_loop t c.args.self.now.next.items c.args.self.now.node.items c.args.counts.now k node c.requires.numbered c.requires.counts c.row-node.ensures in
    let equal = (booleans_Decides c.is_some.result (nat_lt 0 (get_or c.args.counts.now k 0))).0 c.if-is_some-counts.true in
    let fault = face_fits_not (map_of t) node (get_or c.args.counts.now k 0) count (sym c.is_some.ensures ∙ equal) in
    let here = first_in-here (node_with_face (map_of t)) t.nodes k node _ within (ap (node_with_face (map_of t)) same ∙ fault) in
    sym here ∙ c.loop-row.invariant

pub loop-row-preserved : goal.loop-row-preserved
loop-row-preserved c =
    let t = rows_of c.args.self.now.tables.now in
    let k = c.loop-row.row in
    let node = c.row-node.result in
    let within = slice_get_within t.nodes k node c.row-node.ensures in
    let same = get_or_from_slice_get t.nodes k node node c.row-node.ensures in
    let count = face_loop t c.args.self.now.next.items c.args.self.now.node.items c.args.counts.now k node c.requires.numbered c.requires.counts c.row-node.ensures in
    let differ = λ (e : c.is_some.result ≡ nat_lt 0 (get_or c.args.counts.now k 0)). both_ways _ c.if-is_some-counts.false ((booleans_Decides c.is_some.result (nat_lt 0 (get_or c.args.counts.now k 0))).1 e) in
    let fine = face_fits (map_of t) node (get_or c.args.counts.now k 0) count (λ e. differ (c.is_some.ensures ∙ e)) in
    let further = first_in-drop (node_with_face (map_of t)) t.nodes k node within (ap (node_with_face (map_of t)) same ∙ fine) in
    further ∙ c.loop-row.invariant
