-- What stands in faces, by row and by component, and in order.
use Rattle.std.specs.Prelude.{map, nat_eq, not, Option, None, Some, option_map}
use Rattle.std.specs.List.{All, AllByRecursion, cons_option, IsDistinct, filter_map, range_with_len, slice_get}
use Rattle.std.specs.List.Sorted.{IsPermutation}
use Rattle.std.proofs.Common.{◌≡◌, ℕ, zero, suc, ◌+◌, ◌<◌, ◌==◌, ◌||◌, inl, inr, Bool, true, false, List, [], ◌∷◌, ◌++◌, take, length, get_or, slice_index, refl, sym, ap, ◌∙◌, subst, arith, add-one}
use Rattle.std.proofs.lemmas.Bool.{and_parts, or_cases, or_left, or_right, cases_Bool, both_ways, not-true}
use Rattle.std.proofs.lemmas.List.{get_or-map, length-map}
use Rattle.std.proofs.lemmas.Option.{get_or_from_slice_get, slice_get_within}
use Rattle.std.proofs.lemmas.List.FromFn.{fill_by_all, get_or-map-range_with_len, length-range_with_len, map-range_with_len_more}
use Rattle.std.proofs.lemmas.Map.Keys.{IsDistinct-cons}
use Rattle.std.proofs.lemmas.List.Sorted.{All-permutation, Contains-permutation, IsPermutation-map, IsPermutation-sym}
use Rattle.orbits.proofs.Lists.{same_tests}
use Rattle.plane_model.specs.declared.rows.NodeRow.{NodeRow}
use Rattle.plane_model.specs.Sets.{has, is_distinct}
use Rattle.islands.proofs.Collected.{has_from_Contains, Contains_from_has}
use Rattle.map_build.specs.declared.standing.Standing.{Standing}
use Rattle.map_build.specs.Made.{place_of}
use Rattle.map_build.specs.Standing.{AreInOrder}
use Rattle.map_build.specs.Placed.{placed_node, placed_nodes, placed_component, placed_components, AreOrdered}

-- one more item of a list, which gives something or nothing
joined : {Y : Type 0} (o : Option Y) (front back : List Y) → cons_option o (front ++ back) ≡ cons_option o front ++ back
joined None front back = refl
joined (Some y) front back = refl

some_step : {X Y : Type 0} (h : X → Option Y) (xs : List X) (i : ℕ) (d : X) (y : Y) → i < length xs → h (get_or xs i d) ≡ Some y → filter_map h (take (suc i) xs) ≡ filter_map h (take i xs) ++ y ∷ []
some_step h [] i d y l some = absurd (omega (arith, l))
some_step h (z ∷ zs) zero d y l some = rw some refl
some_step h (z ∷ zs) (suc i) d y l some = ap (cons_option (h z)) (some_step h zs i d y (omega (arith, l)) some) ∙ joined (h z) (filter_map h (take i zs)) (y ∷ [])

none_step : {X Y : Type 0} (h : X → Option Y) (xs : List X) (i : ℕ) (d : X) → i < length xs → h (get_or xs i d) ≡ None → filter_map h (take (suc i) xs) ≡ filter_map h (take i xs)
none_step h [] i d l none = absurd (omega (arith, l))
none_step h (z ∷ zs) zero d l none = rw none refl
none_step h (z ∷ zs) (suc i) d l none = ap (cons_option (h z)) (none_step h zs i d (omega (arith, l)) none)

pub node_stands : (faces : List ℕ) (nodes : List NodeRow) (i : ℕ) (row : NodeRow) (f place : ℕ) (before after : List Standing) → slice_get nodes i ≡ Some row → row.face ≡ Some f → place ≡ place_of faces f → before ≡ placed_nodes faces (take i nodes)
    → after ≡ before ++ record { place = place; key = row.id; component = 0 } ∷ [] → after ≡ placed_nodes faces (take (i + 1) nodes)
node_stands faces nodes i row f place before after here named at all more =
    let P : ℕ → List Standing → List Standing = λ v ss. ss ++ record { place = v; key = row.id; component = 0 } ∷ [] in
    let stands : placed_node faces row ≡ Some (record { place = place_of faces f; key = row.id; component = 0 }) = rw named refl in
    let found = ap (placed_node faces) (get_or_from_slice_get nodes i row row here) ∙ stands in
    more ∙ (λ j. P (at j) (all j)) ∙ sym (rw (add-one i) (some_step (placed_node faces) nodes i row (record { place = place_of faces f; key = row.id; component = 0 }) (slice_get_within nodes i row here) found))

pub node_passed : (faces : List ℕ) (nodes : List NodeRow) (i : ℕ) (row : NodeRow) (before after : List Standing) → slice_get nodes i ≡ Some row → row.face ≡ None → before ≡ placed_nodes faces (take i nodes) → after ≡ before
    → after ≡ placed_nodes faces (take (i + 1) nodes)
node_passed faces nodes i row before after here none all same =
    let past : placed_node faces row ≡ None = rw none refl in
    let found = ap (placed_node faces) (get_or_from_slice_get nodes i row row here) ∙ past in
    same ∙ all ∙ sym (rw (add-one i) (none_step (placed_node faces) nodes i row (slice_get_within nodes i row here) found))

-- the keys of nodes are distinct where the ids of rows are
not_among : (x : ℕ) (xs : List ℕ) → has xs x ≡ false → AllByRecursion (λ y. nat_eq x y ≡ false) xs
not_among x [] h = tt
not_among x (y ∷ ys) h = elim (cases_Bool (x == y)) [
  | inl a ↦ absurd (both_ways _ h (or_left _ _ a))
  | inr a ↦ (a, not_among x ys (let e : (false || has ys x) ≡ false = rw a at h in e))
]

key_step : (faces : List ℕ) (n : NodeRow) (face : Option ℕ) (ss : List Standing) (x : ℕ) (b : Bool) → (has (map (λ s. s.key) ss) x ≡ true → b ≡ true)
    → has (map (λ s. s.key) (cons_option (option_map (λ f. record { place = place_of faces f; key = n.id; component = 0 }) face) ss)) x ≡ true → ((x == n.id) || b) ≡ true
key_step faces n None ss x b more h = or_right (x == n.id) b (more h)
key_step faces n (Some f) ss x b more h = elim (or_cases (x == n.id) (has (map (λ s. s.key) ss) x) h) [ inl a ↦ or_left (x == n.id) b a | inr c ↦ or_right (x == n.id) b (more c) ]

key_from_id : (faces : List ℕ) (nodes : List NodeRow) (x : ℕ) → has (map (λ s. s.key) (placed_nodes faces nodes)) x ≡ true → has (map (λ n. n.id) nodes) x ≡ true
key_from_id faces [] x h = absurd (both_ways false refl h)
key_from_id faces (n ∷ ns) x h = key_step faces n n.face (placed_nodes faces ns) x (has (map (λ n. n.id) ns) x) (key_from_id faces ns x) h

apart_step : (faces : List ℕ) (n : NodeRow) (face : Option ℕ) (ss : List Standing) → IsDistinct nat_eq (map (λ s. s.key) ss) → has (map (λ s. s.key) ss) n.id ≡ false
    → IsDistinct nat_eq (map (λ s. s.key) (cons_option (option_map (λ f. record { place = place_of faces f; key = n.id; component = 0 }) face) ss))
apart_step faces n None ss d new = d
apart_step faces n (Some f) ss d new = IsDistinct-cons nat_eq n.id (map (λ s. s.key) ss) (not_among n.id (map (λ s. s.key) ss) new) d

pub apart_nodes : (faces : List ℕ) (nodes : List NodeRow) → is_distinct (map (λ n. n.id) nodes) ≡ true → IsDistinct nat_eq (map (λ s. s.key) (placed_nodes faces nodes))
unfolding IsDistinct
apart_nodes faces [] h = tt
apart_nodes faces (n ∷ ns) h =
    let p = and_parts (not (has (map (λ n. n.id) ns) n.id)) (is_distinct (map (λ n. n.id) ns)) h in
    let new : has (map (λ s. s.key) (placed_nodes faces ns)) n.id ≡ false = elim (cases_Bool (has (map (λ s. s.key) (placed_nodes faces ns)) n.id)) [
      | inl a ↦ absurd (both_ways _ (not-true _ p.0) (key_from_id faces ns n.id a))
      | inr a ↦ a
    ] in
    apart_step faces n n.face (placed_nodes faces ns) (apart_nodes faces ns p.1) new

-- the components
components_are : (places keys : List ℕ) (low n : ℕ) → map (λ s. s.component) (map (placed_component places keys) (range_with_len low n)) ≡ range_with_len low n
components_are places keys low zero = refl
components_are places keys low (suc n) = let more = components_are places keys (low + 1) n in λ i. low ∷ more i

keys_along : (places keys : List ℕ) (low n : ℕ) → map (λ s. s.key) (map (placed_component places keys) (range_with_len low n)) ≡ map (slice_index keys) (range_with_len low n)
keys_along places keys low zero = refl
keys_along places keys low (suc n) = let more = keys_along places keys (low + 1) n in λ i. slice_index keys low ∷ more i

pub keys_are : (places keys : List ℕ) → length places ≡ length keys → map (λ s. s.key) (placed_components places keys) ≡ keys
keys_are places keys many =
    let whole : keys ≡ map (slice_index keys) (range_with_len 0 (length places)) = fill_by_all (slice_index keys) keys (length places) 0 (sym many) (λ k l. refl) in
    keys_along places keys 0 (length places) ∙ sym whole

pub component_more : (places starts : List ℕ) (key : ℕ → ℕ) (k y : ℕ) (before after : List Standing) → k < length starts → y ≡ key (slice_index starts k) → before ≡ map (placed_component places (map key starts)) (range_with_len 0 k)
    → after ≡ before ++ record { place = slice_index places k; key = y; component = k } ∷ [] → after ≡ map (placed_component places (map key starts)) (range_with_len 0 (k + 1))
component_more places starts key k y before after l is all more =
    let e : y ≡ slice_index (map key starts) k = is ∙ sym (get_or-map key starts k 0 0 l) in
    let P : ℕ → List Standing = λ v. before ++ record { place = slice_index places k; key = v; component = k } ∷ [] in
    more ∙ ap P e ∙ ap (λ ss. ss ++ placed_component places (map key starts) k ∷ []) all ∙ sym (map-range_with_len_more (placed_component places (map key starts)) 0 k k (omega arith))

pub same_members : (xs ys : List ℕ) (z : ℕ) → IsPermutation xs ys → has ys z ≡ has xs z
same_members xs ys z moved =
    same_tests (has ys z) (has xs z) (λ h. has_from_Contains xs z (Contains-permutation ys xs z (IsPermutation-sym xs ys moved) (Contains_from_has ys z h)))
    (λ h. has_from_Contains ys z (Contains-permutation xs ys z moved (Contains_from_has xs z h)))

nothing : Standing
nothing = record { place = 0; key = 0; component = 0 }

pub ordered : (places keys : List ℕ) (ys : List Standing) → IsPermutation (placed_components places keys) ys → AreInOrder ys → AreOrdered places keys (map (λ s. s.component) ys)
ordered places keys ys moved order =
    let P : Standing → Type 0 = λ s. (s.place ≡ slice_index places s.component) × (s.key ≡ slice_index keys s.component) in
    let count = length places in
    let of : All P (placed_components places keys) =
    (λ k d l. let m = length-map (range_with_len 0 count) (placed_component places keys) in let r = length-range_with_len 0 count in
    subst P (sym (get_or-map-range_with_len (placed_component places keys) 0 count k k d (omega (arith, l, m, r)) (omega arith))) (refl, refl)) in
    let here : All P ys = All-permutation P (placed_components places keys) ys moved of in
    let at = λ (f : Standing → ℕ) (j : ℕ) (k : j < length ys). get_or-map f ys j nothing 0 k in
    let many = length-map ys (λ (s : Standing). s.component) in
    let place = λ (j : ℕ) (k : j < length ys). at (λ s. s.place) j k ∙ (here j nothing k).0 ∙ ap (slice_index places) (sym (at (λ s. s.component) j k)) in
    let key = λ (j : ℕ) (k : j < length ys). at (λ s. s.key) j k ∙ (here j nothing k).1 ∙ ap (slice_index keys) (sym (at (λ s. s.component) j k)) in
    record {
      all = λ j. same_members (map (λ s. s.component) (placed_components places keys)) (map (λ s. s.component) ys) j (IsPermutation-map (λ s. s.component) (placed_components places keys) ys moved) ∙ ap (λ xs. has xs j) (components_are places keys 0 count);
      rises = λ i l.
          let first : i < length ys = omega (arith, l, many) in
          let second : i + 1 < length ys = omega (arith, l, many) in
          let a = place i first in let b = place (i + 1) second in let x = key i first in let y = key (i + 1) second in
          elim (order i second) [
            | inl h ↦ inl (omega (arith, a, b, h))
            | inr h ↦ let e = h.0 in let f = h.1 in inr (omega (arith, a, b, e), omega (arith, x, y, f))
          ];
    }
