-- Ids that are read ahead by number: where they are found again, and what they cost.
use Rattle.std.specs.Prelude.{slice_index, slice_set, take, if◌then◌else◌}
use Rattle.std.proofs.Common.{◌≡◌, ℕ, ◌+◌, ◌-◌, ◌*◌, ◌<◌, ◌≤◌, ◌==◌, List, [], ◌∷◌, ◌++◌, length, ap, sym, ◌∙◌, arith}
use Rattle.std.proofs.Math.Nat.{mul-le-mul_left}
use Rattle.std.proofs.lemmas.List.{get_or-take, length-take-le, take_all, take_more, take_more_set}
use Rattle.code_laws.specs.Numbers.{node_of}
use Rattle.code_laws.proofs.Selects.{node_within}
use Rattle.file_laws.specs.Contents.{Contents}
use Rattle.file_laws.specs.MapOfFile.{face_at_place, joined_count, node_at}
use Rattle.file_laws.proofs.Fits.{components_same}
use Rattle.file_laws.proofs.Whole.{WholeParts}

-- one id more, and all of them
pub one_read : (ids more names : List ℕ) (k id : ℕ) → k < length ids → k < length names → id ≡ slice_index names k → more ≡ slice_set ids k id → take k ids ≡ take k names → take (k + 1) more ≡ take (k + 1) names
one_read ids more names k id l m is put same =
    ap (take (k + 1)) put ∙ take_more_set ids k id l ∙ ap (λ (xs : List ℕ). xs ++ id ∷ []) same ∙ ap (λ x. take k names ++ x ∷ []) is ∙ sym (take_more names k 0 m)

pub all_read : (ids names : List ℕ) (k n : ℕ) → length ids ≡ n → k ≡ n → take k ids ≡ take k names → ids ≡ take n names
all_read ids names k n long all same = sym (take_all k ids (omega (arith, long, all))) ∙ same ∙ ap (λ x. take x names) all

module _ (c : Contents) (w : WholeParts c) where
  -- nodes that have edges, and faces other than 0, are no more than the sides of edges
  pub joined_few : joined_count c + length c.faces ≤ 2 * length c.edges
  joined_few = let n = w.sizes.nodes in let f = w.sizes.faces in let k = w.sizes.few_components in omega (arith, n, f, k)

  -- the node that a position leaves has an edge, so its id was read
  joined_there : (p : ℕ) → p < length c.code.a → node_of c.code p < joined_count c
  joined_there p l =
      let b = node_within c.code w.seen.sound p l in
      let n = w.sizes.nodes in
      let k = components_same c w in
      omega (arith, b, n, k)

  pub node_listed : (ids : List ℕ) (p node : ℕ) → ids ≡ take (joined_count c) c.nodes → p < length c.code.a → node ≡ node_of c.code p → node < length ids
  node_listed ids p node is l at =
      let low = joined_there p l in
      let long = ap (λ (xs : List ℕ). length xs) is ∙ length-take-le (joined_count c) c.nodes (omega arith) in
      omega (arith, low, long, at)

  pub node_read : (ids : List ℕ) (p node id : ℕ) → ids ≡ take (joined_count c) c.nodes → p < length c.code.a → node ≡ node_of c.code p → id ≡ slice_index ids node → id ≡ node_at c p
  unfolding node_at
  node_read ids p node id is l at id_is =
      let low = joined_there p l in
      id_is ∙ ap (λ (xs : List ℕ). slice_index xs node) is ∙ get_or-take (joined_count c) c.nodes node 0 (omega (arith, low, at)) ∙ ap (slice_index c.nodes) at

-- the face at a place, from the ids of faces
pub face_read : (c : Contents) (ids : List ℕ) (place id : ℕ) → ids ≡ c.faces → id ≡ (if place == 0 then 0 else slice_index ids (place - 1)) → id ≡ face_at_place c place
face_read c ids place id is id_is = id_is ∙ ap (λ (xs : List ℕ). if place == 0 then 0 else slice_index xs (place - 1)) is

-- three lists of ids, each at the price of its names
pub ids_paid : (joined edges faces a b k d start first second last : ℕ) → joined + faces ≤ 2 * edges → a ≤ d → b ≤ d → k ≤ d → first ≤ start + joined * (3 * a + 20) → second ≤ first + edges * (3 * b + 20)
    → last ≤ second + faces * (3 * k + 20) → last ≤ start + edges * (9 * d + 60)
ids_paid joined edges faces a b k d start first second last few x y z p q r =
    let n : joined * (3 * a + 20) ≤ joined * (3 * d + 20) = mul-le-mul_left joined (omega (arith, x)) in
    let e : edges * (3 * b + 20) ≤ edges * (3 * d + 20) = mul-le-mul_left edges (omega (arith, y)) in
    let f : faces * (3 * k + 20) ≤ faces * (3 * d + 20) = mul-le-mul_left faces (omega (arith, z)) in
    let both : (3 * d + 20) * (joined + faces) ≤ (3 * d + 20) * (2 * edges) = mul-le-mul_left (3 * d + 20) few in
    omega (arith, n, e, f, both, p, q, r)
