-- The lists of a file's map are short: no question lists more than four signed edges for each edge, so no total
-- overflows.
use Rattle.std.specs.Prelude.{ℤ, not, filter, flat_map, map, sum_by, if◌then◌else◌, ◌&&◌}
use Rattle.std.proofs.Common.{◌≡◌, ℕ, zero, suc, ◌+◌, ◌*◌, ◌≤◌, inl, inr, Bool, true, false, List, [], ◌∷◌, length, arith, Option, Some, None, ◌==◌, length-append}
use Rattle.std.proofs.lemmas.Bool.{cases_Bool}
use Rattle.std.proofs.lemmas.List.{length-map}
use Rattle.std.proofs.lemmas.List.Sums.{sum_by-cons}
use Rattle.orbits.specs.Walks as walks
use Rattle.topo_base.specs.SignedEdge.{reverse, same_edge}
use Rattle.plane_model.specs.Sets.{has, first_occurrences_but}
use Rattle.plane_model.specs.PlaneMap.{PlaneMap, signed_edges, until_return, leaving, ring, rings, side, turn}
use Rattle.plane_model.specs.Lists.{node_edges, face_edges, adjacent, holes, shell, ring_if_some, round_from_first}
use Rattle.plane_model.specs.Faces.{is_outer}
use Rattle.plane_model.proofs.Sums.{all_rings}
use Rattle.file_laws.specs.Contents.{Contents}
use Rattle.file_laws.specs.MapOfFile.{rows_of_contents}
use Rattle.file_laws.specs.Lawful.{is_whole}
use Rattle.file_laws.proofs.Lists.{length-both}
use Rattle.file_laws.proofs.Whole.{WholeParts, whole_parts}
use Rattle.file_laws.proofs.Rotation.{rotation}
use Rattle.file_laws.proofs.Sizes.{edges_many}
use Rattle.navigate.specs.Bound.{map_with}

until-few : (n : ℕ) (step : ℤ → ℤ) (first d : ℤ) → length (until_return n step first d) ≤ n
unfolding walks.until_return
until-few zero step first d = omega arith
until-few (suc n) step first d =
    let more = until-few n step first (step d) in
    elim (cases_Bool (same_edge (step d) first)) [ inl t ↦ rw t (omega arith) | inr o ↦ rw o (omega (arith, more)) ]

filter-few : {X : Type 0} (p : X → Bool) (xs : List X) → length (filter p xs) ≤ length xs
filter-few p [] = omega arith
filter-few p (x ∷ xs) = let more = filter-few p xs in elim (cases_Bool (p x)) [ inl t ↦ rw t (omega (arith, more)) | inr o ↦ rw o (omega (arith, more)) ]

occurrences-few : (seen xs : List ℕ) → length (first_occurrences_but seen xs) ≤ length xs
occurrences-few seen [] = omega arith
occurrences-few seen (x ∷ xs) =
    elim (cases_Bool (has seen x)) [
      | inl t ↦ rw t (let more = occurrences-few seen xs in omega (arith, more))
      | inr o ↦ rw o (let more = occurrences-few (x ∷ seen) xs in omega (arith, more))
    ]

-- the parts of some have no more than the parts of all
flat-few : (part : ℤ → List ℤ) (p : ℤ → Bool) (rs : List ℤ) → length (flat_map part (filter p rs)) ≤ length (flat_map part rs)
flat-few part p [] = omega arith
flat-few part p (r ∷ rs) =
    let more = flat-few part p rs in
    let all = length-append (part r) (flat_map part rs) in
    elim (cases_Bool (p r)) [
      | inl t ↦ let some = length-append (part r) (flat_map part (filter p rs)) in rw t (omega (arith, more, all, some))
      | inr o ↦ rw o (omega (arith, more, all))
    ]

-- a sum of small numbers
pub sum-few : (f : ℕ → ℕ) (k : ℕ) (xs : List ℕ) → ((x : ℕ) → f x ≤ k) → sum_by f xs ≤ length xs * k
sum-few f k [] each = omega arith
sum-few f k (x ∷ xs) each =
    let more = sum-few f k xs each in
    let here = each x in
    let all = sum_by-cons f x xs in
    let total : suc (length xs) * k ≡ k + length xs * k = omega arith in
    omega (arith, more, here, all, total)

module _ (m : PlaneMap) where
  ring-few : (d : ℤ) → length (ring m d) ≤ length (signed_edges m)
  ring-few d = until-few (length (signed_edges m)) _ d d

  round-few : (ds : List ℤ) → length (round_from_first m ds) ≤ length (signed_edges m)
  round-few [] = omega arith
  round-few (d ∷ ds) = until-few (length (signed_edges m)) (turn m) d d

  shell-few : (o : Option ℤ) → length (ring_if_some m o) ≤ length (signed_edges m)
  shell-few None = omega arith
  shell-few (Some r) = ring-few r

  front-few : (b : Bool) (o : Option ℤ) → length (if b then [] else ring_if_some m o) ≤ length (signed_edges m)
  front-few true o = omega arith
  front-few false o = shell-few o

  pub adjacent-few : (f : ℕ) → length (adjacent m f) ≤ length (face_edges m f)
  adjacent-few f =
      let beside = map (λ d. side m (reverse d)) (face_edges m f) in
      let first = occurrences-few [] (filter (λ g. not (g == f)) beside) in
      let second = filter-few (λ g. not (g == f)) beside in
      let third = length-map (face_edges m f) (λ d. side m (reverse d)) in
      omega (arith, first, second, third)

module _ (c : Contents) (h : is_whole c ≡ true) where
  abbrev m : PlaneMap
  m = map_with c

  w : WholeParts c
  w = whole_parts c h

  edges-few : length (signed_edges m) ≤ 33554432
  unfolding signed_edges
  edges-few = let both = length-both m.edges.keys in let many = edges_many c w in let few = w.sizes.few_edges in omega (arith, both, many, few)

  pub faces-few : length c.faces ≤ 16777216
  faces-few = let s = w.sizes.faces in let few = w.sizes.few_edges in omega (arith, s, few)

  pub nodes-few : length c.nodes ≤ 16777216
  nodes-few = w.sizes.few_nodes

  pub node-few : (n : ℕ) → length (node_edges m n) ≤ 67108864
  node-few n = let few = round-few m (leaving m n) in omega (arith, few, edges-few)

  pub face-few : (f : ℕ) → length (face_edges m f) ≤ 67108864
  face-few f =
      let front = front-few m (f == 0) (shell m f) in
      let back = flat-few (ring m) (λ r. (side m r == f) && is_outer m r) (rings m) in
      let all = (all_rings (rows_of_contents c) (rotation c w)).as_many in
      let both = length-append (if f == 0 then [] else ring_if_some m (shell m f)) (flat_map (ring m) (holes m f)) in
      omega (arith, front, back, all, both, edges-few)

  pub across-few : (f : ℕ) → length (adjacent m f) ≤ 67108864
  across-few f = let a = adjacent-few m f in let b = face-few f in omega (arith, a, b)
