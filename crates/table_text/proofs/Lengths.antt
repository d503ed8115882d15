-- How long the texts of a map are at most.
use Rattle.std.proofs.Common.{◌≡◌, ℕ, suc, ◌+◌, ◌*◌, ◌≤◌, Bool, true, ◌&&◌, List, [], ◌∷◌, map, length, length-append, Option, Some, None, ap, arith, decimal}
use Rattle.std.specs.Prelude.{ℤ, pos, negsuc, nat_le, flat_map}
use Rattle.std.specs.Fmt.{signed_decimal}
use Rattle.std.specs.List.{list_all, join_with_byte}
use Rattle.std.proofs.lemmas.Bool.{and_parts, leb-true}
use Rattle.std.proofs.lemmas.Fmt.{length-decimal-le}
use Rattle.topo_base.specs.SignedEdge.{is_signed_edge}
use Rattle.topo_base.specs.declared.id.TheConstants.{LARGEST_ID}
use Rattle.topo_base.specs.declared.refusal.Table.{Table}
use Rattle.topo_base.specs.declared.refusal.Table.TheVariants as table
use Rattle.plane_model.specs.declared.rows.NodeRow.{NodeRow}
use Rattle.plane_model.specs.declared.rows.EdgeRow.{EdgeRow}
use Rattle.plane_model.specs.declared.rows.FaceRow.{FaceRow}
use Rattle.plane_model.specs.declared.rows.RegionRow.{RegionRow}
use Rattle.plane_model.specs.declared.rows.MemberRow.{MemberRow}
use Rattle.plane_model.specs.Rows.{Rows}
use Rattle.plane_model.specs.PlaneMap.{map_of}
use Rattle.plane_model.specs.InRange.{is_id, is_face_id, is_none_or, is_edge_in_range}
use Rattle.plane_model.specs.Texts.{text_line, number_or_empty, edge_fields, table_text}
use Rattle.table_text.specs.RowsOfMap.{rows_of_map}
use Rattle.table_text.proofs.RowsRead.{header_of}
use Rattle.table_text.proofs.Spelled.{node_fields, is_node, face_fields, is_face_row, region_fields, is_region_row, member_fields, is_member_row}
use Rattle.table_text.proofs.RowsBack.{AreDistinct, AreWithin, within_again, row_counts}
use Rattle.table_text.proofs.WholeTexts.{node_text, edge_text, face_text, region_text, member_text}

-- each field and what stands behind it
total : List (List ℕ) → ℕ
total [] = 0
total (x ∷ rest) = length x + 1 + total rest

joined_length : (x : List ℕ) (rest : List (List ℕ)) → length (join_with_byte 44 (x ∷ rest)) + 1 ≡ total (x ∷ rest)
unfolding total
joined_length x [] = omega arith
joined_length x (y ∷ ys) =
    let more = joined_length y ys in
    let whole = length-append x (44 ∷ join_with_byte 44 (y ∷ ys)) in
    omega arith

line_length : (x : List ℕ) (rest : List (List ℕ)) → length (text_line (x ∷ rest)) ≡ total (x ∷ rest)
line_length x rest =
    let whole = length-append (join_with_byte 44 (x ∷ rest)) (10 ∷ []) in
    let joined = joined_length x rest in
    omega arith

number_length : (n : ℕ) → n ≤ LARGEST_ID → length (decimal n) ≤ 19
number_length n h = length-decimal-le 19 n (omega arith) (omega (arith, h)) (omega (arith, h))

id_length : (n : ℕ) → is_id n ≡ true → length (decimal n) ≤ 19
id_length n h = number_length n (leb-true n LARGEST_ID (and_parts (nat_le 1 n) _ h).1)

face_length : (f : ℕ) → is_face_id f ≡ true → length (decimal f) ≤ 19
face_length f h = number_length f (leb-true f LARGEST_ID h)

signed_length : (d : ℤ) → is_signed_edge d ≡ true → length (signed_decimal d) ≤ 20
signed_length (pos n) h = let l = number_length n (leb-true n LARGEST_ID (and_parts _ (nat_le n LARGEST_ID) h).1) in omega (arith, l)
signed_length (negsuc n) h = let l = number_length (suc n) (leb-true (suc n) LARGEST_ID (and_parts _ (nat_le (suc n) LARGEST_ID) h).1) in omega (arith, l)

perhaps_length : (p : ℕ → Bool) → ((n : ℕ) → p n ≡ true → length (decimal n) ≤ 19) → (o : Option ℕ) → is_none_or p o ≡ true → length (number_or_empty o) ≤ 19
perhaps_length p each None h = omega arith
perhaps_length p each (Some n) h = each n h

two_fields : (x y : List ℕ) → length x ≤ 19 → length y ≤ 19 → length (text_line (x ∷ y ∷ [])) ≤ 40
unfolding total
two_fields x y a b = let l = line_length x (y ∷ []) in omega (arith, l)

node_line : (r : NodeRow) → is_node r ≡ true → length (text_line (node_fields r)) ≤ 40
node_line r h = let parts = and_parts (is_id r.id) (is_none_or is_face_id r.face) h in two_fields (decimal r.id) (number_or_empty r.face) (id_length r.id parts.0) (perhaps_length is_face_id face_length r.face parts.1)

face_line : (r : FaceRow) → is_face_row r ≡ true → length (text_line (face_fields r)) ≤ 20
unfolding total
face_line r h = let l = line_length (decimal r.id) [] in let n = face_length r.id h in omega (arith, l)

region_line : (r : RegionRow) → is_region_row r ≡ true → length (text_line (region_fields r)) ≤ 40
region_line r h = let parts = and_parts (is_id r.id) (is_none_or is_id r.parent) h in two_fields (decimal r.id) (number_or_empty r.parent) (id_length r.id parts.0) (perhaps_length is_id id_length r.parent parts.1)

member_line : (r : MemberRow) → is_member_row r ≡ true → length (text_line (member_fields r)) ≤ 40
member_line r h = let parts = and_parts (is_id r.region) (is_face_id r.face) h in two_fields (decimal r.region) (decimal r.face) (id_length r.region parts.0) (face_length r.face parts.1)

seven_fields : (a b c d e f g : List ℕ) → length a ≤ 19 → length b ≤ 19 → length c ≤ 19 → length d ≤ 20 → length e ≤ 20 → length f ≤ 19 → length g ≤ 19 → length (text_line (a ∷ b ∷ c ∷ d ∷ e ∷ f ∷ g ∷ [])) ≤ 142
unfolding total
seven_fields a b c d e f g la lb lc ld le lf lg = let l = line_length a (b ∷ c ∷ d ∷ e ∷ f ∷ g ∷ []) in omega (arith, l)

edge_line : (r : EdgeRow) → is_edge_in_range r ≡ true → length (text_line (edge_fields r)) ≤ 142
edge_line r h =
    let six = and_parts (is_id r.id && is_id r.start && is_id r.end && is_signed_edge r.next_left && is_signed_edge r.next_right && is_face_id r.left_face) (is_face_id r.right_face) h in
    let five = and_parts (is_id r.id && is_id r.start && is_id r.end && is_signed_edge r.next_left && is_signed_edge r.next_right) (is_face_id r.left_face) six.0 in
    let four = and_parts (is_id r.id && is_id r.start && is_id r.end && is_signed_edge r.next_left) (is_signed_edge r.next_right) five.0 in
    let three = and_parts (is_id r.id && is_id r.start && is_id r.end) (is_signed_edge r.next_left) four.0 in
    let two = and_parts (is_id r.id && is_id r.start) (is_id r.end) three.0 in
    let one = and_parts (is_id r.id) (is_id r.start) two.0 in
    seven_fields (decimal r.id) (decimal r.start) (decimal r.end) (signed_decimal r.next_left) (signed_decimal r.next_right) (decimal r.left_face) (decimal r.right_face)
    (id_length r.id one.0) (id_length r.start one.1) (id_length r.end two.1) (signed_length r.next_left three.1) (signed_length r.next_right four.1) (face_length r.left_face five.1) (face_length r.right_face six.1)

-- lines of some length at most
lines_length : {R : Type 0} (fields : R → List (List ℕ)) (ok : R → Bool) (most : ℕ) → ((r : R) → ok r ≡ true → length (text_line (fields r)) ≤ most)
    → (rs : List R) → list_all ok rs ≡ true → length (flat_map text_line (map fields rs)) ≤ most * length rs
lines_length fields ok most each [] all = omega arith
lines_length fields ok most each (r ∷ rs) all =
    let parts = and_parts (ok r) (list_all ok rs) all in
    let first = each r parts.0 in
    let more = lines_length fields ok most each rs parts.1 in
    let whole = length-append (text_line (fields r)) (flat_map text_line (map fields rs)) in
    omega arith

pub node_text_length : (t : Rows) → AreDistinct t → AreWithin t → length (table_text (map_of t) table.Node) ≤ 24 + 40 * length t.nodes
node_text_length t d w =
    let is = ap length (node_text (map_of t)) in
    let lines = lines_length node_fields is_node 40 node_line (rows_of_map (map_of t)).nodes (within_again t d w).nodes in
    let whole = length-append (text_line (header_of table.Node)) (flat_map text_line (map node_fields (rows_of_map (map_of t)).nodes)) in
    let many = (row_counts t d).nodes in
    omega arith

pub edge_text_length : (t : Rows) → AreDistinct t → AreWithin t → length (table_text (map_of t) table.Edge) ≤ 80 + 142 * length t.edges
edge_text_length t d w =
    let is = ap length (edge_text (map_of t)) in
    let lines = lines_length edge_fields is_edge_in_range 142 edge_line (rows_of_map (map_of t)).edges (within_again t d w).edges in
    let whole = length-append (text_line (header_of table.Edge)) (flat_map text_line (map edge_fields (rows_of_map (map_of t)).edges)) in
    let many = (row_counts t d).edges in
    omega arith

pub face_text_length : (t : Rows) → AreDistinct t → AreWithin t → length (table_text (map_of t) table.Face) ≤ 8 + 20 * length t.faces
face_text_length t d w =
    let is = ap length (face_text (map_of t)) in
    let lines = lines_length face_fields is_face_row 20 face_line (rows_of_map (map_of t)).faces (within_again t d w).faces in
    let whole = length-append (text_line (header_of table.Face)) (flat_map text_line (map face_fields (rows_of_map (map_of t)).faces)) in
    let many = (row_counts t d).faces in
    omega arith

pub region_text_length : (t : Rows) → AreDistinct t → AreWithin t → length (table_text (map_of t) table.Region) ≤ 17 + 40 * length t.regions
region_text_length t d w =
    let is = ap length (region_text (map_of t)) in
    let lines = lines_length region_fields is_region_row 40 region_line (rows_of_map (map_of t)).regions (within_again t d w).regions in
    let whole = length-append (text_line (header_of table.Region)) (flat_map text_line (map region_fields (rows_of_map (map_of t)).regions)) in
    let many = (row_counts t d).regions in
    omega arith

pub member_text_length : (t : Rows) → AreDistinct t → AreWithin t → length (table_text (map_of t) table.Member) ≤ 18 + 40 * length t.members
member_text_length t d w =
    let is = ap length (member_text t) in
    let lines = lines_length member_fields is_member_row 40 member_line (rows_of_map (map_of t)).members (within_again t d w).members in
    let whole = length-append (text_line (header_of table.Member)) (flat_map text_line (map member_fields (rows_of_map (map_of t)).members)) in
    let many = (row_counts t d).members in
    omega arith

-- up to so many edges each text is within 2^30 bytes
pub each_text_length : (t : Rows) (which : Table) → AreDistinct t → AreWithin t → length t.edges ≤ 7_561_561 → length (table_text (map_of t) which) ≤ 1_073_741_824
each_text_length t table.Node d w few = let l = node_text_length t d w in omega (arith, l, w.node_count)
each_text_length t table.Edge d w few = let l = edge_text_length t d w in omega (arith, l)
each_text_length t table.Face d w few = let l = face_text_length t d w in omega (arith, l, w.face_count)
each_text_length t table.Region d w few = let l = region_text_length t d w in omega (arith, l, w.region_count)
each_text_length t table.Member d w few = let l = member_text_length t d w in omega (arith, l, w.member_count)
