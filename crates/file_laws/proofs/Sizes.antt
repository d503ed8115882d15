-- The map of a lawful file: it is consistent and in range, and has the size that the file's counts give.
use Rattle.std.specs.Prelude.{map, filter, is_some, slice_index, unwrap_or}
use Rattle.std.proofs.Common.{◌≡◌, ℕ, ◌+◌, ◌*◌, ◌<◌, ◌≤◌, inl, inr, Bool, true, false, List, length, refl, ap, sym, ◌∙◌, arith, subst, IsTrue}
use Rattle.std.specs.List.{range_with_len}
use Rattle.std.proofs.lemmas.Bool.{cases_lt, lt-ltb, le-ltb, both_ways}
use Rattle.std.proofs.lemmas.List.FromFn.{length-range_with_len}
use Rattle.orbits.proofs.Lists.{in_filter, from_filter, apart_kept}
use Rattle.orbits.proofs.Numbers.{same_numbers, in_range, from_range, range_apart}
use Rattle.plane_model.specs.declared.rows.EdgeRow.{EdgeRow}
use Rattle.plane_model.specs.declared.rows.RegionRow.{RegionRow}
use Rattle.plane_model.specs.Sets.{rising}
use Rattle.plane_model.specs.PlaneMap.{PlaneMap, map_of}
use Rattle.plane_model.specs.Rotation.{node_face}
use Rattle.plane_model.specs.Consistent.{is_consistent, size}
use Rattle.plane_model.specs.InRange.{is_in_range}
use Rattle.id_names.specs.Names.{number_of}
use Rattle.file_laws.specs.Layout.{counts_in, words_of}
use Rattle.file_laws.specs.Contents.{Contents}
use Rattle.file_laws.specs.Held.{contents_of}
use Rattle.file_laws.specs.MapOfFile.{edge_row, region_row, joined_count, rows_of_contents}
use Rattle.file_laws.specs.Lawful.{is_lawful, map_of_file, file_size}
use Rattle.file_laws.proofs.Lists.{keys_kept, length-rising}
use Rattle.file_laws.proofs.Counting.{as_many_numbers}
use Rattle.file_laws.proofs.Whole.{WholeParts, whole_parts}
use Rattle.file_laws.proofs.Rotation.{node_key, node_keys_apart, node_keys_from, face_of}
use Rattle.file_laws.proofs.Sections.{sections_have, lawful_whole}
use Rattle.file_laws.proofs.Consistent.{consistent_of, range_of}

module _ (c : Contents) (w : WholeParts c) where
  abbrev m : PlaneMap
  m = map_of (rows_of_contents c)

  pub edges_many : length m.edges.keys ≡ length c.edges
  edges_many =
      let keys = keys_kept (λ (r : EdgeRow). r.id) (λ id. edge_row c id (unwrap_or (number_of c.edges id) 0)) (λ x. refl) (rising c.edges) in
      length-rising (map (λ (r : EdgeRow). r.id) (rows_of_contents c).edges) ∙ ap length keys ∙ length-rising c.edges

  isolated_at : (x : ℕ) → joined_count c ≤ x → x < length c.nodes → is_some (node_face m (slice_index c.nodes x)) ≡ true
  isolated_at x g l = let test = le-ltb x (joined_count c) g in rw (face_of c w x l) (rw test refl)

  joined_at : (x : ℕ) → x < joined_count c → x < length c.nodes → is_some (node_face m (slice_index c.nodes x)) ≡ false
  joined_at x k l = let test = lt-ltb x (joined_count c) k in rw (face_of c w x l) (rw test refl)

  -- isolated nodes are those with a face
  isolated_many : length (filter (λ n. is_some (node_face m n)) m.nodes.keys) ≡ length c.isolated
  isolated_many =
      let test : ℕ → Bool = λ n. is_some (node_face m n) in
      let s = w.sizes.nodes in
      let same = as_many_numbers (λ x. slice_index c.nodes x) (range_with_len (joined_count c) (length c.isolated)) (filter test m.nodes.keys) (range_apart (joined_count c) (length c.isolated))
      (apart_kept same_numbers test m.nodes.keys (node_keys_apart c w))
      (λ x y h k e. let a = from_range (joined_count c) (length c.isolated) x h in let b = from_range (joined_count c) (length c.isolated) y k in w.node_names.distinct x y (omega (arith, a.1, s)) (omega (arith, b.1, s)) e)
      (λ x h. let a = from_range (joined_count c) (length c.isolated) x h in in_filter same_numbers test m.nodes.keys (slice_index c.nodes x) (isolated_at x a.0 (omega (arith, a.1, s))) (node_key c w x (omega (arith, a.1, s))))
      (λ n h.
      let n' = from_filter same_numbers test m.nodes.keys n h in
      let x = node_keys_from c w n n'.1 in
      let there : is_some (node_face m (slice_index c.nodes x.0)) ≡ true = subst (λ y. is_some (node_face m y) ≡ true) (sym x.2) n'.0 in
      let from : joined_count c ≤ x.0 = elim (cases_lt x.0 (joined_count c)) [ inl k ↦ absurd (both_ways _ (joined_at x.0 k x.1) there) | inr g ↦ g ] in
      (x.0, in_range (joined_count c) (length c.isolated) x.0 from (omega (arith, from, x.1, s)), x.2)) in
      sym same ∙ length-range_with_len (joined_count c) (length c.isolated)

  pub regions_many : length m.regions.keys ≡ length c.regions
  regions_many =
      let keys = keys_kept (λ (r : RegionRow). r.id) (λ id. region_row c id (unwrap_or (number_of c.regions id) 0)) (λ x. refl) (rising c.regions) in
      length-rising (map (λ (r : RegionRow). r.id) (rows_of_contents c).regions) ∙ ap length keys ∙ length-rising c.regions

  pub size_is : size m ≡ 2 * length c.edges + length c.isolated + 2 * length c.regions + 2
  size_is = let e = edges_many in let i = isolated_many in let r = regions_many in omega (arith, e, i, r)

pub lawful_consistent : (bytes : List ℕ) → IsTrue (is_lawful bytes) → IsTrue (is_consistent (map_of_file bytes))
unfolding map_of_file
lawful_consistent bytes h = consistent_of (contents_of (words_of bytes)) (lawful_whole bytes h)

pub lawful_in_range : (bytes : List ℕ) → IsTrue (is_lawful bytes) → IsTrue (is_in_range (map_of_file bytes))
unfolding map_of_file
lawful_in_range bytes h = range_of (contents_of (words_of bytes)) (lawful_whole bytes h)

pub lawful_size : (bytes : List ℕ) → IsTrue (is_lawful bytes) → file_size (counts_in (words_of bytes)) ≡ size (map_of (map_of_file bytes))
unfolding map_of_file contents_of
lawful_size bytes h =
    let c = contents_of (words_of bytes) in
    let w = whole_parts c (lawful_whole bytes h) in
    let is = size_is c w in
    let s = sections_have (words_of bytes) in
    omega (arith, is, s.edges, s.isolated, s.regions)
