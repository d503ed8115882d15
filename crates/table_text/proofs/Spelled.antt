-- The fields of each row, which read as the row again.
use Rattle.std.proofs.Common.{◌≡◌, ℕ, suc, ◌<◌, ◌≤◌, ◌^◌, Bool, true, false, ◌&&◌, ◌==◌, List, [], ◌∷◌, length, Option, Some, None, refl, ap, ◌∙◌, arith, decimal}
use Rattle.std.specs.Prelude.{ℤ, pos, negsuc, nat_le, Ok}
use Rattle.std.specs.Fmt.{signed_decimal}
use Rattle.std.proofs.lemmas.Bool.{and_parts, and_from, leb-true, ne_eqb}
use Rattle.std.proofs.lemmas.Fmt.{decimal_nonempty}
use Rattle.csv.specs.Writing.{default_writer, is_blank}
use Rattle.topo_base.specs.SignedEdge.{is_signed_edge}
use Rattle.topo_base.specs.Spelling.{id_number, positive_number, signed_number}
use Rattle.topo_base.specs.declared.id.TheConstants.{LARGEST_ID}
use Rattle.topo_base.specs.declared.refusal.Table.{Table}
use Rattle.topo_base.specs.declared.refusal.Table.TheVariants as table
use Rattle.topo_base.specs.declared.refusal.Column.{Column}
use Rattle.topo_base.specs.declared.refusal.Column.TheVariants as column
use Rattle.topo_base.proofs.Spelled.{id_reads, positive_reads, signed_reads}
use Rattle.plane_model.specs.declared.rows.NodeRow.{NodeRow}
use Rattle.plane_model.specs.declared.rows.EdgeRow.{EdgeRow}
use Rattle.plane_model.specs.declared.rows.FaceRow.{FaceRow}
use Rattle.plane_model.specs.declared.rows.RegionRow.{RegionRow}
use Rattle.plane_model.specs.declared.rows.MemberRow.{MemberRow}
use Rattle.plane_model.specs.InRange.{is_id, is_face_id, is_none_or, is_edge_in_range}
use Rattle.plane_model.specs.Reading.{Line, field, required, optional, node_row, edge_row, face_row, region_row, member_row}
use Rattle.plane_model.specs.Texts.{number_or_empty, edge_fields}
use Rattle.table_text.proofs.Plain.{is_plain, plain_text, decimal-plain, signed-plain}
use Rattle.table_text.proofs.RowsRead.{IsWritten, header_of}

-- a field's text, which shows a byte, needs no quotes, and is the spelling of a value
record Spells {X : Type 0} (number : List ℕ → Option X) (text : List ℕ) (x : X) : Type 0 where
  plain : is_plain text ≡ true
  some : (length text == 0) ≡ false
  reads : number text ≡ Some x

is_some_text : (n : ℕ) → n < 2 ^ 64 → (length (decimal n) == 0) ≡ false
is_some_text n h = let some = decimal_nonempty n h in ne_eqb (length (decimal n)) 0 (λ e. omega arith)

bounds : (least n : ℕ) → (nat_le least n && nat_le n LARGEST_ID) ≡ true → (least ≤ n) × (n ≤ LARGEST_ID)
bounds least n h = let parts = and_parts (nat_le least n) _ h in (leb-true least n parts.0, leb-true n LARGEST_ID parts.1)

id_spells : (n : ℕ) → is_id n ≡ true → Spells positive_number (decimal n) n
id_spells n h =
    let b = bounds 1 n h in
    record { plain = decimal-plain n (omega (arith, b.1)); some = is_some_text n (omega (arith, b.1)); reads = positive_reads n b.0 b.1 }

face_spells : (f : ℕ) → is_face_id f ≡ true → Spells id_number (decimal f) f
face_spells f h =
    let b = leb-true f LARGEST_ID h in
    record { plain = decimal-plain f (omega (arith, b)); some = is_some_text f (omega (arith, b)); reads = id_reads f b }

signed_spells : (d : ℤ) → is_signed_edge d ≡ true → Spells signed_number (signed_decimal d) d
signed_spells (pos n) h =
    let b = leb-true n LARGEST_ID (and_parts _ (nat_le n LARGEST_ID) h).1 in
    record { plain = decimal-plain n (omega (arith, b)); some = is_some_text n (omega (arith, b)); reads = signed_reads (pos n) h }
signed_spells (negsuc n) h =
    let b = leb-true (suc n) LARGEST_ID (and_parts _ (nat_le (suc n) LARGEST_ID) h).1 in
    record { plain = signed-plain n (omega (arith, b)); some = ne_eqb (suc (length (decimal (suc n)))) 0 (λ e. omega arith); reads = signed_reads (negsuc n) h }

-- a field with such a text reads as its value
required_reads : {X : Type 0} (number : List ℕ → Option X) (t : Table) (l : Line) (c : Column) (text : List ℕ) (x : X) → field l c ≡ text → Spells number text x → required number t l c ≡ Ok x
required_reads number t l c text x e s =
    let some : (length (field l c) == 0) ≡ false = ap (λ f. length f == 0) e ∙ s.some in
    let reads : number (field l c) ≡ Some x = ap number e ∙ s.reads in
    rw (some, reads) refl

optional_reads : (number : List ℕ → Option ℕ) (p : ℕ → Bool) → ((n : ℕ) → p n ≡ true → Spells number (decimal n) n)
    → (t : Table) (l : Line) (c : Column) (o : Option ℕ) → field l c ≡ number_or_empty o → is_none_or p o ≡ true → optional number t l c ≡ Ok o
optional_reads number p spells t l c None e h =
    let none : (length (field l c) == 0) ≡ true = ap (λ f. length f == 0) e in
    rw none refl
optional_reads number p spells t l c (Some n) e h =
    let s = spells n h in
    let some : (length (field l c) == 0) ≡ false = ap (λ f. length f == 0) e ∙ s.some in
    let reads : number (field l c) ≡ Some n = ap number e ∙ s.reads in
    rw (some, reads) refl

empty_or_plain : (p : ℕ → Bool) (number : List ℕ → Option ℕ) → ((n : ℕ) → p n ≡ true → Spells number (decimal n) n) → (o : Option ℕ) → is_none_or p o ≡ true → is_plain (number_or_empty o) ≡ true
empty_or_plain p number spells None h = refl
empty_or_plain p number spells (Some n) h = (spells n h).plain

-- a lone field that shows a byte is no blank line
alone : (x : List ℕ) → is_plain x ≡ true → (length x == 0) ≡ false → is_blank default_writer (x ∷ []) ≡ false
unfolding is_blank
alone x plain some = ap (λ y. length y == 0) (plain_text x plain) ∙ some

abbrev pub node_fields : NodeRow → List (List ℕ)
node_fields r = decimal r.id ∷ number_or_empty r.face ∷ []

abbrev pub is_node : NodeRow → Bool
is_node r = is_id r.id && is_none_or is_face_id r.face

pub node_written : (r : NodeRow) → is_node r ≡ true → IsWritten table.Node node_row (node_fields r) r
unfolding is_blank
node_written r h =
    let parts = and_parts (is_id r.id) (is_none_or is_face_id r.face) h in
    let id = id_spells r.id parts.0 in
    record {
      line = and_from _ _ (and_from _ _ id.plain (and_from _ _ (empty_or_plain is_face_id id_number face_spells r.face parts.1) refl)) refl;
      whole = refl;
      reads = λ n.
          let l : Line = record { header = header_of table.Node; row = n; fields = node_fields r } in
          let a : required positive_number table.Node l column.NodeId ≡ Ok r.id = required_reads positive_number table.Node l column.NodeId (decimal r.id) r.id refl id in
          let b : optional id_number table.Node l column.ContainingFace ≡ Ok r.face = optional_reads id_number is_face_id face_spells table.Node l column.ContainingFace r.face refl parts.1 in
          rw (a, b) refl;
    }

pub edge_written : (r : EdgeRow) → is_edge_in_range r ≡ true → IsWritten table.Edge edge_row (edge_fields r) r
unfolding is_blank
edge_written r h =
    let six = and_parts (is_id r.id && is_id r.start && is_id r.end && is_signed_edge r.next_left && is_signed_edge r.next_right && is_face_id r.left_face) (is_face_id r.right_face) h in
    let five = and_parts (is_id r.id && is_id r.start && is_id r.end && is_signed_edge r.next_left && is_signed_edge r.next_right) (is_face_id r.left_face) six.0 in
    let four = and_parts (is_id r.id && is_id r.start && is_id r.end && is_signed_edge r.next_left) (is_signed_edge r.next_right) five.0 in
    let three = and_parts (is_id r.id && is_id r.start && is_id r.end) (is_signed_edge r.next_left) four.0 in
    let two = and_parts (is_id r.id && is_id r.start) (is_id r.end) three.0 in
    let one = and_parts (is_id r.id) (is_id r.start) two.0 in
    let id = id_spells r.id one.0 in
    let start = id_spells r.start one.1 in
    let end = id_spells r.end two.1 in
    let next_left = signed_spells r.next_left three.1 in
    let next_right = signed_spells r.next_right four.1 in
    let left_face = face_spells r.left_face five.1 in
    let right_face = face_spells r.right_face six.1 in
    record {
      line =
          and_from _ _
          (and_from _ _ id.plain (and_from _ _ start.plain (and_from _ _ end.plain (and_from _ _ next_left.plain (and_from _ _ next_right.plain (and_from _ _ left_face.plain (and_from _ _ right_face.plain refl)))))))
          refl;
      whole = refl;
      reads = λ n.
          let l : Line = record { header = header_of table.Edge; row = n; fields = edge_fields r } in
          let a : required positive_number table.Edge l column.EdgeId ≡ Ok r.id = required_reads positive_number table.Edge l column.EdgeId (decimal r.id) r.id refl id in
          let b : required positive_number table.Edge l column.StartNode ≡ Ok r.start = required_reads positive_number table.Edge l column.StartNode (decimal r.start) r.start refl start in
          let c : required positive_number table.Edge l column.EndNode ≡ Ok r.end = required_reads positive_number table.Edge l column.EndNode (decimal r.end) r.end refl end in
          let d : required signed_number table.Edge l column.NextLeftEdge ≡ Ok r.next_left = required_reads signed_number table.Edge l column.NextLeftEdge (signed_decimal r.next_left) r.next_left refl next_left in
          let e : required signed_number table.Edge l column.NextRightEdge ≡ Ok r.next_right = required_reads signed_number table.Edge l column.NextRightEdge (signed_decimal r.next_right) r.next_right refl next_right in
          let f : required id_number table.Edge l column.LeftFace ≡ Ok r.left_face = required_reads id_number table.Edge l column.LeftFace (decimal r.left_face) r.left_face refl left_face in
          let g : required id_number table.Edge l column.RightFace ≡ Ok r.right_face = required_reads id_number table.Edge l column.RightFace (decimal r.right_face) r.right_face refl right_face in
          rw (a, b, c, d, e, f, g) refl;
    }

abbrev pub face_fields : FaceRow → List (List ℕ)
face_fields r = decimal r.id ∷ []

abbrev pub is_face_row : FaceRow → Bool
is_face_row r = is_face_id r.id

pub face_written : (r : FaceRow) → is_face_row r ≡ true → IsWritten table.Face face_row (face_fields r) r
unfolding is_blank
face_written r h =
    let id = face_spells r.id h in
    record {
      line = and_from _ _ (and_from _ _ id.plain refl) (let shown = alone (decimal r.id) id.plain id.some in rw shown refl);
      whole = refl;
      reads = λ n.
          let l : Line = record { header = header_of table.Face; row = n; fields = face_fields r } in
          let a : required id_number table.Face l column.FaceId ≡ Ok r.id = required_reads id_number table.Face l column.FaceId (decimal r.id) r.id refl id in
          rw a refl;
    }

abbrev pub region_fields : RegionRow → List (List ℕ)
region_fields r = decimal r.id ∷ number_or_empty r.parent ∷ []

abbrev pub is_region_row : RegionRow → Bool
is_region_row r = is_id r.id && is_none_or is_id r.parent

pub region_written : (r : RegionRow) → is_region_row r ≡ true → IsWritten table.Region region_row (region_fields r) r
unfolding is_blank
region_written r h =
    let parts = and_parts (is_id r.id) (is_none_or is_id r.parent) h in
    let id = id_spells r.id parts.0 in
    record {
      line = and_from _ _ (and_from _ _ id.plain (and_from _ _ (empty_or_plain is_id positive_number id_spells r.parent parts.1) refl)) refl;
      whole = refl;
      reads = λ n.
          let l : Line = record { header = header_of table.Region; row = n; fields = region_fields r } in
          let a : required positive_number table.Region l column.RegionId ≡ Ok r.id = required_reads positive_number table.Region l column.RegionId (decimal r.id) r.id refl id in
          let b : optional positive_number table.Region l column.Parent ≡ Ok r.parent = optional_reads positive_number is_id id_spells table.Region l column.Parent r.parent refl parts.1 in
          rw (a, b) refl;
    }

abbrev pub member_fields : MemberRow → List (List ℕ)
member_fields r = decimal r.region ∷ decimal r.face ∷ []

abbrev pub is_member_row : MemberRow → Bool
is_member_row r = is_id r.region && is_face_id r.face

pub member_written : (r : MemberRow) → is_member_row r ≡ true → IsWritten table.Member member_row (member_fields r) r
unfolding is_blank
member_written r h =
    let parts = and_parts (is_id r.region) (is_face_id r.face) h in
    let region = id_spells r.region parts.0 in
    let face = face_spells r.face parts.1 in
    record {
      line = and_from _ _ (and_from _ _ region.plain (and_from _ _ face.plain refl)) refl;
      whole = refl;
      reads = λ n.
          let l : Line = record { header = header_of table.Member; row = n; fields = member_fields r } in
          let a : required positive_number table.Member l column.RegionId ≡ Ok r.region = required_reads positive_number table.Member l column.RegionId (decimal r.region) r.region refl region in
          let b : required id_number table.Member l column.FaceId ≡ Ok r.face = required_reads id_number table.Member l column.FaceId (decimal r.face) r.face refl face in
          rw (a, b) refl;
    }
