-- The text of each table reads as the rows of the map.
use Rattle.std.proofs.Common.{◌≡◌, ℕ, true, List, [], ◌∷◌, ◌++◌, map, Option, Some, None, refl, sym, ap, ◌∙◌, eq-eqb, decimal}
use Rattle.std.specs.Prelude.{pos, flat_map, is_some, unwrap_or, Result, Ok}
use Rattle.std.proofs.lemmas.Bool.{or_left, or_right}
use Rattle.csv.specs.Reading.{strip_bom}
use Rattle.csv.specs.Writing.{is_blank}
use Rattle.topo_base.specs.declared.refusal.Table.TheVariants as table
use Rattle.topo_base.specs.declared.refusal.Refusal.{Refusal}
use Rattle.plane_model.specs.declared.rows.NodeRow.{NodeRow}
use Rattle.plane_model.specs.declared.rows.EdgeRow.{EdgeRow}
use Rattle.plane_model.specs.declared.rows.FaceRow.{FaceRow}
use Rattle.plane_model.specs.declared.rows.RegionRow.{RegionRow}
use Rattle.plane_model.specs.declared.rows.MemberRow.{MemberRow}
use Rattle.plane_model.specs.Rows.{Rows}
use Rattle.plane_model.specs.Sets.{has}
use Rattle.plane_model.specs.PlaneMap.{PlaneMap, map_of, row_of}
use Rattle.plane_model.specs.Rotation.{node_face}
use Rattle.plane_model.specs.Regions.{parent}
use Rattle.plane_model.specs.Reading.{◌>>=◌, node_row, edge_row, face_row, region_row, member_row, node_rows, edge_rows, face_rows, region_rows, member_rows}
use Rattle.plane_model.specs.Texts.{text_line, number_or_empty, edge_fields, table_text}
use Rattle.plane_model.specs.InRange.{is_edge_in_range}
use Rattle.plane_model.proofs.FaultParts.{has_key_at}
use Rattle.table_text.specs.RowsOfMap.{node_of, edge_of, face_of, region_of, member_of, rows_of_map}
use Rattle.table_text.specs.TextsRead.{tables_read}
use Rattle.table_text.proofs.RowsRead.{header_of, rows_of_text}
use Rattle.table_text.proofs.Spelled.{node_fields, is_node, node_written, edge_written, face_fields, is_face_row, face_written, region_fields, is_region_row, region_written, member_fields, is_member_row, member_written}
use Rattle.table_text.proofs.RowsBack.{AreDistinct, AreWithin, within_again}

-- the fields of the rows at keys are what is written at each key
fused : {R : Type 0} (fields : R → List (List ℕ)) (back : ℕ → R) (line : ℕ → List (List ℕ)) (ks : List ℕ) → ((k : ℕ) → has ks k ≡ true → line k ≡ fields (back k)) → map line ks ≡ map fields (map back ks)
fused fields back line [] same = refl
fused fields back line (k ∷ ks) same =
    let first = same k (or_left _ _ (eq-eqb k k refl)) in
    let more = fused fields back line ks (λ x there. same x (or_right _ _ there)) in
    rw (first, more) refl

some_text : (o : Option ℕ) → is_some o ≡ true → number_or_empty o ≡ decimal (unwrap_or o 0)
some_text None h = cc
some_text (Some n) h = refl

-- the text of a table is a header and the fields of the rows of the map
pub node_text : (m : PlaneMap) → table_text m table.Node ≡ text_line (header_of table.Node) ++ flat_map text_line (map node_fields (rows_of_map m).nodes)
node_text m =
    ap (λ lines. text_line (header_of table.Node) ++ flat_map text_line lines)
    (fused node_fields (node_of m) (λ n. decimal n ∷ number_or_empty (node_face m n) ∷ []) m.nodes.keys (λ k there. refl))

pub edge_text : (m : PlaneMap) → table_text m table.Edge ≡ text_line (header_of table.Edge) ++ flat_map text_line (map edge_fields (rows_of_map m).edges)
edge_text m =
    ap (λ lines. text_line (header_of table.Edge) ++ flat_map text_line lines)
    (fused edge_fields (edge_of m) (λ e. edge_fields (row_of m (pos e))) m.edges.keys (λ k there. refl))

pub face_text : (m : PlaneMap) → table_text m table.Face ≡ text_line (header_of table.Face) ++ flat_map text_line (map face_fields (rows_of_map m).faces)
face_text m = ap (λ lines. text_line (header_of table.Face) ++ flat_map text_line lines) (fused face_fields face_of (λ f. decimal f ∷ []) m.faces (λ k there. refl))

pub region_text : (m : PlaneMap) → table_text m table.Region ≡ text_line (header_of table.Region) ++ flat_map text_line (map region_fields (rows_of_map m).regions)
region_text m =
    ap (λ lines. text_line (header_of table.Region) ++ flat_map text_line lines)
    (fused region_fields (region_of m) (λ r. decimal r ∷ number_or_empty (parent m r) ∷ []) m.regions.keys (λ k there. refl))

-- each face of a member has a region
pub member_text : (t : Rows) → table_text (map_of t) table.Member ≡ text_line (header_of table.Member) ++ flat_map text_line (map member_fields (rows_of_map (map_of t)).members)
member_text t =
    let m = map_of t in
    let held : (f : ℕ) → has m.members.keys f ≡ true → is_some (m.members.at f) ≡ true = λ f there. sym (has_key_at (λ (r : MemberRow). r.face) (λ (r : MemberRow). r.region) t.members f) ∙ there in
    ap (λ lines. text_line (header_of table.Member) ++ flat_map text_line lines)
    (fused member_fields (member_of m) (λ f. number_or_empty (m.members.at f) ∷ decimal f ∷ []) m.members.keys
    (λ k there. ap (λ text. text ∷ decimal k ∷ []) (some_text (m.members.at k) (held k there))))

module _ (t : Rows) (d : AreDistinct t) (w : AreWithin t) where
  pub nodes_read : node_rows (table_text (map_of t) table.Node) ≡ Ok (rows_of_map (map_of t)).nodes
  unfolding is_blank strip_bom
  nodes_read =
      let within = within_again t d w in
      ap node_rows (node_text (map_of t)) ∙ rows_of_text table.Node node_row node_fields is_node node_written (rows_of_map (map_of t)).nodes within.nodes within.node_count refl refl refl

  pub edges_read : edge_rows (table_text (map_of t) table.Edge) ≡ Ok (rows_of_map (map_of t)).edges
  unfolding is_blank strip_bom
  edges_read =
      let within = within_again t d w in
      ap edge_rows (edge_text (map_of t)) ∙ rows_of_text table.Edge edge_row edge_fields is_edge_in_range edge_written (rows_of_map (map_of t)).edges within.edges within.edge_count refl refl refl

  pub faces_read : face_rows (table_text (map_of t) table.Face) ≡ Ok (rows_of_map (map_of t)).faces
  unfolding is_blank strip_bom
  faces_read =
      let within = within_again t d w in
      ap face_rows (face_text (map_of t)) ∙ rows_of_text table.Face face_row face_fields is_face_row face_written (rows_of_map (map_of t)).faces within.faces within.face_count refl refl refl

  pub regions_read : region_rows (table_text (map_of t) table.Region) ≡ Ok (rows_of_map (map_of t)).regions
  unfolding is_blank strip_bom
  regions_read =
      let within = within_again t d w in
      ap region_rows (region_text (map_of t)) ∙ rows_of_text table.Region region_row region_fields is_region_row region_written (rows_of_map (map_of t)).regions within.regions within.region_count refl refl refl

  pub members_read : member_rows (table_text (map_of t) table.Member) ≡ Ok (rows_of_map (map_of t)).members
  unfolding is_blank strip_bom
  members_read =
      let within = within_again t d w in
      ap member_rows (member_text t) ∙ rows_of_text table.Member member_row member_fields is_member_row member_written (rows_of_map (map_of t)).members within.members within.member_count refl refl refl

  pub all_read : tables_read (table_text (map_of t)) ≡ Ok (rows_of_map (map_of t))
  all_read =
      let a = nodes_read in
      let b = edges_read in
      let c = faces_read in
      let e = regions_read in
      let f = members_read in
      five (node_rows (table_text (map_of t) table.Node)) (edge_rows (table_text (map_of t) table.Edge)) (face_rows (table_text (map_of t) table.Face)) (region_rows (table_text (map_of t) table.Region)) (member_rows (table_text (map_of t) table.Member)) _ _ _ _ _ a b c e f
    where
      five : (a : Result (List NodeRow) Refusal) (b : Result (List EdgeRow) Refusal) (c : Result (List FaceRow) Refusal) (e : Result (List RegionRow) Refusal) (f : Result (List MemberRow) Refusal)
          (va : List NodeRow) (vb : List EdgeRow) (vc : List FaceRow) (ve : List RegionRow) (vf : List MemberRow) → a ≡ Ok va → b ≡ Ok vb → c ≡ Ok vc → e ≡ Ok ve → f ≡ Ok vf
          → (a >>= λ nodes. b >>= λ edges. c >>= λ faces. e >>= λ regions. ◌>>=◌ {B = Rows} f (λ members. Ok (record { nodes = nodes; edges = edges; faces = faces; regions = regions; members = members }))) ≡ Ok (record { nodes = va; edges = vb; faces = vc; regions = ve; members = vf })
      five a b c e f va vb vc ve vf ha hb hc he hf = rw (ha, hb, hc, he, hf) refl
