-- The tables of whole contents are in range.
use Rattle.std.specs.Prelude.{slice_index, unwrap_or}
use Rattle.std.proofs.Common.{◌≡◌, ℕ, ◌≤◌, true, ◌&&◌, length, arith}
use Rattle.std.proofs.lemmas.Bool.{and_from, le-leb}
use Rattle.std.proofs.lemmas.List.{length-map}
use Rattle.plane_model.specs.declared.rows.NodeRow.{NodeRow}
use Rattle.plane_model.specs.declared.rows.FaceRow.{FaceRow}
use Rattle.plane_model.specs.Sets.{rising}
use Rattle.plane_model.specs.InRange.{is_id, is_face_id, is_none_or, is_edge_in_range, is_in_range}
use Rattle.id_names.specs.Names.{number_of}
use Rattle.file_laws.specs.Contents.{Contents}
use Rattle.file_laws.specs.MapOfFile.{node_row, edge_row, region_row, rows_of_contents}
use Rattle.file_laws.proofs.Lists.{each_row, length-rising}
use Rattle.file_laws.proofs.Whole.{WholeParts}
use Rattle.file_laws.proofs.Fits.{node_row_fits, edge_fits}
use Rattle.file_laws.proofs.Regions.{regions_fit, members_fit, members_few}

pub in_range : (c : Contents) → WholeParts c → is_in_range (rows_of_contents c) ≡ true
in_range c w =
    let t = rows_of_contents c in
    let sn = w.sizes.few_nodes in
    let se = w.sizes.few_edges in
    let sf = w.sizes.faces in
    let sr = w.sizes.few_regions in
    let mf = members_few c w in
    let rf = length-rising c.faces in
    let ln : length t.nodes ≤ 16777216 = rw (length-map (rising c.nodes) (λ id. node_row c id (unwrap_or (number_of c.nodes id) 0)), length-rising c.nodes) sn in
    let le : length t.edges ≤ 16777216 = rw (length-map (rising c.edges) (λ id. edge_row c id (unwrap_or (number_of c.edges id) 0)), length-rising c.edges) se in
    let fewer : length c.faces ≤ 16777216 = omega (arith, sf, se) in
    let lf : length t.faces ≤ 16777216 = rw (length-map (rising c.faces) (λ (id : ℕ). let r : FaceRow = record { id = id } in r), length-rising c.faces) fewer in
    let lr : length t.regions ≤ 16777216 = rw (length-map (rising c.regions) (λ id. region_row c id (unwrap_or (number_of c.regions id) 0)), length-rising c.regions) sr in
    let lm : length t.members ≤ 16777217 = omega (arith, mf, rf, fewer) in
    let n = each_row (λ (r : NodeRow). is_id r.id && is_none_or is_face_id r.face) c.nodes (λ id. node_row c id (unwrap_or (number_of c.nodes id) 0)) (λ x l. node_row_fits c w x l (unwrap_or (number_of c.nodes (slice_index c.nodes x)) 0)) in
    let e = each_row is_edge_in_range c.edges (λ id. edge_row c id (unwrap_or (number_of c.edges id) 0)) (edge_fits c w) in
    let f = each_row (λ (r : FaceRow). is_face_id r.id) c.faces (λ (id : ℕ). record { id = id }) (λ x l. let r = w.face_names.in_range x l in le-leb _ _ (omega (arith, r.1))) in
    and_from _ _ (and_from _ _ (and_from _ _ (and_from _ _ (and_from _ _ (and_from _ _ (and_from _ _ (and_from _ _ (and_from _ _ n e) f) (regions_fit c w)) (members_fit c w))
    (le-leb _ _ ln)) (le-leb _ _ le)) (le-leb _ _ lf)) (le-leb _ _ lr)) (le-leb _ _ lm)
