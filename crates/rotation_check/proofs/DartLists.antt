-- The signed edges of a map and those of the darts of its rows.
use Rattle.std.proofs.Common.{◌≡◌, ℕ, zero, suc, ◌+◌, ◌*◌, ◌/◌, ◌%◌, ◌<◌, inl, inr, ℤ, pos, neg_ℤ, Bool, true, false, List, [], ◌∷◌, map, filter, length, get_or, refl, sym, ◌∙◌, subst, arith}
use Rattle.std.specs.Prelude.{flat_map, nat_le}
use Rattle.std.proofs.lemmas.Bool.{cases_Bool, or_cases, or_left, or_right, both_ways}
use Rattle.topo_base.specs.SignedEdge.{same_edge}
use Rattle.plane_model.specs.declared.rows.EdgeRow.{EdgeRow}
use Rattle.plane_model.specs.Rows.{Rows}
use Rattle.plane_model.specs.Sets.{has_edge, put, rising}
use Rattle.plane_model.specs.PlaneMap.{map_of, signed_edges}
use Rattle.plane_model.proofs.SetLaws.{same_is, same_self}
use Rattle.rotation_check.specs.Darts.{signed_edge}

-- the signed edges of all darts, in their order
abbrev pub both_ways_of : List ℕ → List ℤ
both_ways_of ids = flat_map (λ e. pos e ∷ neg_ℤ (pos e) ∷ []) ids

abbrev pub dart_edges : List EdgeRow → List ℤ
dart_edges edges = both_ways_of (map (λ e. e.id) edges)

-- how many pass
abbrev pub number_of : (ℤ → Bool) → List ℤ → ℕ
number_of p ds = length (filter p ds)

number_pair : (p : ℤ → Bool) (x : ℕ) (ds : List ℤ) → number_of p (pos x ∷ neg_ℤ (pos x) ∷ ds) ≡ number_of p (pos x ∷ neg_ℤ (pos x) ∷ []) + number_of p ds
number_pair p x ds = elim (cases_Bool (p (pos x))) [
  | inl a ↦ elim (cases_Bool (p (neg_ℤ (pos x)))) [ inl b ↦ rw (a, b) (omega arith) | inr b ↦ rw (a, b) (omega arith) ]
  | inr a ↦ elim (cases_Bool (p (neg_ℤ (pos x)))) [ inl b ↦ rw (a, b) (omega arith) | inr b ↦ rw (a, b) (omega arith) ]
]

number_cons : (p : ℤ → Bool) (x : ℕ) (xs : List ℕ) → number_of p (both_ways_of (x ∷ xs)) ≡ number_of p (pos x ∷ neg_ℤ (pos x) ∷ []) + number_of p (both_ways_of xs)
number_cons p x xs = number_pair p x (both_ways_of xs)

number_put : (p : ℤ → Bool) (x : ℕ) (xs : List ℕ) → number_of p (both_ways_of (put x xs)) ≡ number_of p (both_ways_of (x ∷ xs))
unfolding put
number_put p x [] = refl
number_put p x (y ∷ ys) = elim (cases_Bool (nat_le x y)) [
  | inl e ↦ rw e refl
  | inr e ↦
      let more = number_put p x ys in
      let a = number_cons p y (put x ys) in
      let b = number_cons p x ys in
      let c = number_cons p x (y ∷ ys) in
      let d = number_cons p y ys in
      rw e (omega arith)
]

number_rising : (p : ℤ → Bool) (xs : List ℕ) → number_of p (both_ways_of (rising xs)) ≡ number_of p (both_ways_of xs)
unfolding rising
number_rising p [] = refl
number_rising p (x ∷ xs) =
    let more = number_rising p xs in
    let a = number_put p x (rising xs) in
    let b = number_cons p x (rising xs) in
    let c = number_cons p x xs in
    omega arith

-- as many signed edges of the map pass as of the darts
pub number_of-signed : (p : ℤ → Bool) (t : Rows) → number_of p (signed_edges (map_of t)) ≡ number_of p (dart_edges t.edges)
unfolding signed_edges
number_of-signed p t = number_rising p (map (λ e. e.id) t.edges)

there_if_some : (ds : List ℤ) (d : ℤ) → 0 < number_of (same_edge d) ds → has_edge ds d ≡ true
there_if_some [] d h = absurd (omega arith)
there_if_some (x ∷ xs) d h = elim (cases_Bool (same_edge d x)) [ inl e ↦ or_left _ _ e | inr e ↦ or_right _ _ (there_if_some xs d (rw e at h)) ]

some_if_there : (ds : List ℤ) (d : ℤ) → has_edge ds d ≡ true → 0 < number_of (same_edge d) ds
some_if_there [] d h = absurd (both_ways false refl h)
some_if_there (x ∷ xs) d h = elim (cases_Bool (same_edge d x)) [
  | inl e ↦ rw e (omega arith)
  | inr e ↦ rw e (some_if_there xs d (rw e at h))
]

-- the signed edges of the map are those of the darts
pub signed_to_dart : (t : Rows) (d : ℤ) → has_edge (signed_edges (map_of t)) d ≡ true → has_edge (dart_edges t.edges) d ≡ true
signed_to_dart t d h =
    let n = some_if_there (signed_edges (map_of t)) d h in
    let e = number_of-signed (same_edge d) t in
    there_if_some (dart_edges t.edges) d (omega arith)

pub dart_to_signed : (t : Rows) (d : ℤ) → has_edge (dart_edges t.edges) d ≡ true → has_edge (signed_edges (map_of t)) d ≡ true
dart_to_signed t d h =
    let n = some_if_there (dart_edges t.edges) d h in
    let e = number_of-signed (same_edge d) t in
    there_if_some (signed_edges (map_of t)) d (omega arith)

pub length-dart_edges : (edges : List EdgeRow) → length (dart_edges edges) ≡ 2 * length edges
length-dart_edges [] = refl
length-dart_edges (e ∷ edges) = let more = length-dart_edges edges in omega arith

-- a dart of the rows behind the first
next_row : (k : ℕ) → suc (suc k) / 2 ≡ suc (k / 2)
next_row k = omega arith

same_parity : (k : ℕ) → suc (suc k) % 2 ≡ k % 2
same_parity k = omega arith

signed_edge-behind : (e : EdgeRow) (edges : List EdgeRow) (k : ℕ) → signed_edge (e ∷ edges) (suc (suc k)) ≡ signed_edge edges k
signed_edge-behind e edges k = rw (next_row k, same_parity k) refl

-- the k-th of them is that of the dart k
pub get-dart_edges : (edges : List EdgeRow) (k : ℕ) (d : ℤ) → k < 2 * length edges → get_or (dart_edges edges) k d ≡ signed_edge edges k
get-dart_edges [] k d h = absurd (omega arith)
get-dart_edges (e ∷ edges) zero d h = refl
get-dart_edges (e ∷ edges) (suc zero) d h = refl
get-dart_edges (e ∷ edges) (suc (suc k)) d h = get-dart_edges edges k d (omega arith) ∙ sym (signed_edge-behind e edges k)

dart_there : (ds : List ℤ) (k : ℕ) (d : ℤ) → k < length ds → has_edge ds (get_or ds k d) ≡ true
dart_there [] k d h = absurd (omega arith)
dart_there (x ∷ xs) zero d h = or_left _ _ (same_self x)
dart_there (x ∷ xs) (suc k) d h = or_right _ _ (dart_there xs k d (omega arith))

there_place : (ds : List ℤ) (d : ℤ) → has_edge ds d ≡ true → (k : ℕ) × (k < length ds) × (get_or ds k d ≡ d)
there_place [] d h = absurd (both_ways false refl h)
there_place (x ∷ xs) d h = elim (or_cases (same_edge d x) (has_edge xs d) h) [
  | inl is ↦ (0, omega arith, sym (same_is d x is))
  | inr more ↦ let r = there_place xs d more in (suc r.0, (let lt = r.1 in omega arith), r.2)
]

-- each dart's signed edge is one of the map's
pub signed_there : (t : Rows) (k : ℕ) → k < 2 * length t.edges → has_edge (signed_edges (map_of t)) (signed_edge t.edges k) ≡ true
signed_there t k h =
    let l = length-dart_edges t.edges in
    let is = get-dart_edges t.edges k (pos 0) h in
    dart_to_signed t (signed_edge t.edges k) (subst (λ z. has_edge (dart_edges t.edges) z ≡ true) is (dart_there (dart_edges t.edges) k (pos 0) (omega arith)))

-- and each of them is a dart's
pub dart_place : (t : Rows) (d : ℤ) → has_edge (signed_edges (map_of t)) d ≡ true → (k : ℕ) × (k < 2 * length t.edges) × (signed_edge t.edges k ≡ d)
dart_place t d h =
    let l = length-dart_edges t.edges in
    let r = there_place (dart_edges t.edges) d (signed_to_dart t d h) in
    let lt : r.0 < 2 * length t.edges = (let a = r.1 in omega arith) in
    (r.0, lt, sym (get-dart_edges t.edges r.0 d lt) ∙ r.2)
