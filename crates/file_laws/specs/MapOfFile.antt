-- The tables that a file stands for.
use Rattle.std.specs.Prelude.{ℕ, ◌+◌, ◌-◌, ◌==◌, ℤ, pos, neg_ℤ, Bool, false, nat_lt, if◌then◌else◌, List, [], ◌∷◌, map, flat_map, length, slice_index, slice_index_or, Some, None, option_map, unwrap_or}
use Rattle.bit_words.specs.Bits.{same}
use Rattle.code_laws.specs.Code.{is_first, mate, next}
use Rattle.code_laws.specs.Numbers.{edge_of, node_of, ring_of, first_of_edge}
use Rattle.code_laws.specs.declared.ring_number.RingNumber.{RingNumber}
use Rattle.code_laws.specs.declared.ring_number.RingNumber.TheVariants.{Outer, Shell}
use Rattle.id_names.specs.Names.{number_of}
use Rattle.region_tree.specs.Nesting.{parent_number}
use Rattle.plane_model.specs.declared.rows.NodeRow.{NodeRow}
use Rattle.plane_model.specs.declared.rows.EdgeRow.{EdgeRow}
use Rattle.plane_model.specs.declared.rows.RegionRow.{RegionRow}
use Rattle.plane_model.specs.declared.rows.MemberRow.{MemberRow}
use Rattle.plane_model.specs.Rows.{Rows}
use Rattle.plane_model.specs.Sets.{rising}
use Rattle.file_laws.specs.Contents.{Contents}

-- the signed edge at a position: forward at the first position of its edge where its bit is 1, and at the second where
-- it is 0
abbrev pub is_forward_at : Contents → ℕ → Bool
is_forward_at c p = same (is_first c.code p) (slice_index_or c.forward (edge_of c.code p) false)

unfoldable pub signed_at : Contents → ℕ → ℤ
signed_at c p = let id = slice_index c.edges (edge_of c.code p) in if is_forward_at c p then pos id else neg_ℤ (pos id)

-- the node that the position's signed edge leaves
unfoldable pub node_at : Contents → ℕ → ℕ
node_at c p = slice_index c.nodes (node_of c.code p)

-- the face at a place: face 0, or the face of a number
abbrev pub face_at_place : Contents → ℕ → ℕ
face_at_place c place = if place == 0 then 0 else slice_index c.faces (place - 1)

-- the place of a ring: where its component stands, or its own face
abbrev pub place_of_ring : Contents → RingNumber → ℕ
place_of_ring c (Outer j) = slice_index c.places j
place_of_ring c (Shell s) = s + 1

-- the face on the left of the position's signed edge
unfoldable pub face_at : Contents → ℕ → ℕ
face_at c p = face_at_place c (place_of_ring c (ring_of c.code p))

-- rows by number, rising by id
abbrev pub by_id : {R : Type 0} → List ℕ → (ℕ → ℕ → R) → List R
by_id ids row = map (λ id. row id (unwrap_or (number_of ids id) 0)) (rising ids)

-- how many nodes have edges
abbrev pub joined_count : Contents → ℕ
joined_count c = length c.nodes - length c.isolated

abbrev pub node_row : Contents → ℕ → ℕ → NodeRow
node_row c id x =
    record { id = id; face = if nat_lt x (joined_count c) then None else Some (face_at_place c (slice_index c.isolated (x - joined_count c))) }

-- the position of an edge whose signed edge is forward
unfoldable pub forward_position : Contents → ℕ → ℕ
forward_position c e = let p = unwrap_or (first_of_edge c.code e) 0 in if slice_index_or c.forward e false then p else mate c.code p

abbrev pub edge_row : Contents → ℕ → ℕ → EdgeRow
edge_row c id e =
    let p = forward_position c e in
    let q = mate c.code p in
    record {
      id = id;
      start = node_at c p;
      end = node_at c q;
      next_left = signed_at c (next c.code p);
      next_right = signed_at c (next c.code q);
      left_face = face_at c p;
      right_face = face_at c q;
    }

-- a region lies in the one of the innermost pair round it
abbrev pub region_row : Contents → ℕ → ℕ → RegionRow
region_row c id x = record { id = id; parent = option_map (slice_index c.regions) (parent_number c.region_bits x) }

-- the row of a face at a place, where it is in a region
abbrev pub member_row : Contents → ℕ → ℕ → List MemberRow
member_row c face place =
    let region = slice_index c.members place in
    if region == 0 then [] else record { region = slice_index c.regions (region - 1); face = face } ∷ []

abbrev pub place_of_face : Contents → ℕ → ℕ
place_of_face c face = if face == 0 then 0 else unwrap_or (number_of c.faces face) 0 + 1

abbrev pub member_rows : Contents → List MemberRow
member_rows c = flat_map (λ face. member_row c face (place_of_face c face)) (0 ∷ rising c.faces)

-- the tables of what a file holds
abbrev pub rows_of_contents : Contents → Rows
rows_of_contents c =
    record {
      nodes = by_id c.nodes (node_row c);
      edges = by_id c.edges (edge_row c);
      faces = map (λ id. record { id = id }) (rising c.faces);
      regions = by_id c.regions (region_row c);
      members = member_rows c;
    }
