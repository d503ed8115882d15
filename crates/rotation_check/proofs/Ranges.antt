-- What tables in range say of their rows.
use Rattle.std.proofs.Common.{ℤ, pos, negsuc, w64, SFits, ◌≡◌, ℕ, zero, suc, ◌<◌, ◌≤◌, Bool, true, List, [], ◌∷◌, length, get_or, refl, subst, Some, arith}
use Rattle.std.specs.Prelude.{nat_le, nat_lt}
use Rattle.std.specs.Int.{Width}
use Rattle.std.proofs.Common.{of_z, to_z}
use Rattle.std.proofs.Math.Facts.{to_z-of_z}
use Rattle.std.specs.List.{list_all, slice_get}
use Rattle.std.proofs.lemmas.Option.{get_or_from_slice_get, slice_get_within}
use Rattle.std.proofs.lemmas.Bool.{and_parts, and_from, leb-true, ltb-true, le-leb, lt-ltb}
use Rattle.topo_base.specs.declared.id.TheConstants.{LARGEST_ID}
use Rattle.topo_base.specs.SignedEdge.{edge_of, is_signed_edge}
use Rattle.plane_model.specs.declared.rows.EdgeRow.{EdgeRow}
use Rattle.plane_model.specs.Rows.{Rows}
use Rattle.plane_model.specs.InRange.{is_in_range, is_edge_in_range, is_id}
use Rattle.plane_model.specs.PlaneMap.{no_edge}

pub record InRange (t : Rows) : Type 0 where
  pub edges : list_all is_edge_in_range t.edges ≡ true
  pub node_rows : length t.nodes ≤ 16_777_216
  pub edge_rows : length t.edges ≤ 16_777_216
  pub face_rows : length t.faces ≤ 16_777_216

pub in_range : (t : Rows) → is_in_range t ≡ true → InRange t
in_range t h =
    let p10 = and_parts _ _ h in
    let p9 = and_parts _ _ p10.0 in
    let p8 = and_parts _ _ p9.0 in
    let p7 = and_parts _ _ p8.0 in
    let p6 = and_parts _ _ p7.0 in
    let p5 = and_parts _ _ p6.0 in
    let p4 = and_parts _ _ p5.0 in
    let p3 = and_parts _ _ p4.0 in
    let p2 = and_parts _ _ p3.0 in
    record {
      edges = p2.1;
      node_rows = leb-true (length t.nodes) 16_777_216 p6.1;
      edge_rows = leb-true (length t.edges) 16_777_216 p7.1;
      face_rows = leb-true (length t.faces) 16_777_216 p8.1;
    }

at_place : {R : Type 0} (p : R → Bool) (rows : List R) (k : ℕ) (d : R) → k < length rows → list_all p rows ≡ true → p (get_or rows k d) ≡ true
at_place p [] k d h all = absurd (omega arith)
at_place p (x ∷ xs) zero d h all = (and_parts (p x) (list_all p xs) all).0
at_place p (x ∷ xs) (suc k) d h all = at_place p xs k d (omega arith) (and_parts (p x) (list_all p xs) all).1

pub record EdgeInRange (e : EdgeRow) : Type 0 where
  pub id : is_id e.id ≡ true
  pub left : is_signed_edge e.next_left ≡ true
  pub right : is_signed_edge e.next_right ≡ true

edge_parts : (e : EdgeRow) → is_edge_in_range e ≡ true → EdgeInRange e
edge_parts e h =
    let q7 = and_parts _ _ h in
    let q6 = and_parts _ _ q7.0 in
    let q5 = and_parts _ _ q6.0 in
    let q4 = and_parts _ _ q5.0 in
    let q3 = and_parts _ _ q4.0 in
    let q2 = and_parts _ _ q3.0 in
    record { id = q2.0; left = q4.1; right = q5.1 }

pub edge_at : (t : Rows) (k : ℕ) → is_in_range t ≡ true → k < length t.edges → EdgeInRange (get_or t.edges k no_edge)
edge_at t k h lt = edge_parts (get_or t.edges k no_edge) (at_place is_edge_in_range t.edges k no_edge lt (in_range t h).edges)

all_ids : (edges : List EdgeRow) → list_all is_edge_in_range edges ≡ true → list_all (λ e. is_id e.id) edges ≡ true
all_ids [] h = refl
all_ids (e ∷ edges) h =
    let parts = and_parts (is_edge_in_range e) (list_all is_edge_in_range edges) h in
    and_from (is_id e.id) (list_all (λ e. is_id e.id) edges) (edge_parts e parts.0).id (all_ids edges parts.1)

-- the row at a place has an id
pub row_has_id : (edges : List EdgeRow) (k : ℕ) (edge : EdgeRow) → list_all (λ e. is_id e.id) edges ≡ true → slice_get edges k ≡ Some edge → is_id edge.id ≡ true
row_has_id edges k edge all here =
    subst (λ e. is_id e.id ≡ true) (get_or_from_slice_get edges k edge edge here) (at_place (λ e. is_id e.id) edges k edge (slice_get_within edges k edge here) all)

-- the ids of edges are ids
pub edge_ids_are : (t : Rows) → is_in_range t ≡ true → list_all (λ e. is_id e.id) t.edges ≡ true
edge_ids_are t h = all_ids t.edges (in_range t h).edges

-- and each part of that, one by one
pub ids_positive : (edges : List EdgeRow) → list_all (λ e. is_id e.id) edges ≡ true → list_all (λ e. nat_lt 0 e.id) edges ≡ true
ids_positive [] h = refl
ids_positive (e ∷ edges) h =
    let parts = and_parts (is_id e.id) (list_all (λ e. is_id e.id) edges) h in
    let least = leb-true 1 e.id (and_parts (nat_le 1 e.id) (nat_le e.id LARGEST_ID) parts.0).0 in
    and_from (nat_lt 0 e.id) (list_all (λ e. nat_lt 0 e.id) edges) (lt-ltb 0 e.id least) (ids_positive edges parts.1)

pub ids_small : (edges : List EdgeRow) → list_all (λ e. is_id e.id) edges ≡ true → list_all (λ e. nat_le e.id LARGEST_ID) edges ≡ true
ids_small [] h = refl
ids_small (e ∷ edges) h =
    let parts = and_parts (is_id e.id) (list_all (λ e. is_id e.id) edges) h in
    and_from (nat_le e.id LARGEST_ID) (list_all (λ e. nat_le e.id LARGEST_ID) edges) (and_parts (nat_le 1 e.id) (nat_le e.id LARGEST_ID) parts.0).1 (ids_small edges parts.1)

-- the width of signed numbers
abbrev pub signed_width : Width
signed_width = w64

fits : (d : ℤ) → edge_of d ≤ LARGEST_ID → SFits signed_width d
fits (pos n) h = record { sfits = omega arith }
fits (negsuc n) h = record { sfits = omega arith }

-- a signed edge that is passed stays what it is
pub kept : (d : ℤ) → is_signed_edge d ≡ true → to_z signed_width (of_z signed_width d) ≡ d
kept d h = to_z-of_z (fits d (leb-true (edge_of d) LARGEST_ID (and_parts (nat_lt 0 (edge_of d)) (nat_le (edge_of d) LARGEST_ID) h).1))

pub all_are_ids : (edges : List EdgeRow) → list_all (λ e. nat_lt 0 e.id) edges ≡ true → list_all (λ e. nat_le e.id LARGEST_ID) edges ≡ true → list_all (λ e. is_id e.id) edges ≡ true
all_are_ids [] h k = refl
all_are_ids (e ∷ edges) h k =
    let a = and_parts (nat_lt 0 e.id) (list_all (λ e. nat_lt 0 e.id) edges) h in
    let b = and_parts (nat_le e.id LARGEST_ID) (list_all (λ e. nat_le e.id LARGEST_ID) edges) k in
    let positive = ltb-true 0 e.id a.0 in
    and_from (is_id e.id) (list_all (λ e. is_id e.id) edges) (and_from (nat_le 1 e.id) (nat_le e.id LARGEST_ID) (le-leb 1 e.id (omega arith)) b.0) (all_are_ids edges a.1 b.1)
