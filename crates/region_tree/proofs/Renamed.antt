-- Places in slots are the regions inside one another, under their ids.
use Rattle.std.specs.Prelude.{filter, flat_map, slice_index, unwrap_or, option_map, is_none, nat_lt, if◌then◌else◌}
use Rattle.std.proofs.Common.{◌≡◌, ◌≢◌, ℕ, zero, suc, ◌+◌, ◌-◌, ◌<◌, ◌≤◌, inl, inr, Bool, true, false, ◌==◌, List, [], ◌∷◌, ◌++◌, map, length, refl, ap, sym, ◌∙◌, subst, arith, Option, Some, None, eq-eqb}
use Rattle.std.specs.List.{range_with_len}
use Rattle.std.proofs.lemmas.Bool.{cases_Bool, cases_lt, both_ways, eqb-true, ne_eqb, lt-ltb, le-ltb, ltb-true, or_left, or_right}
use Rattle.std.proofs.lemmas.List.{get_or-map, length-map, map-append, map-id}
use Rattle.bit_words.specs.Lists.{is_at}
use Rattle.orbits.proofs.Numbers.{from_range, has_place}
use Rattle.plane_model.specs.Sets.{has}
use Rattle.plane_model.specs.PlaneMap.{PlaneMap}
use Rattle.plane_model.specs.Regions.{parent}
use Rattle.region_tree.specs.Ancestors.{parent_at, ancestor}
use Rattle.region_tree.specs.ByPlace.{AreByPlace}
use Rattle.region_tree.specs.Preorder.{nested}
use Rattle.region_tree.specs.Parts.{roots, children, region_ids, region_bits}
use Rattle.region_tree.specs.Siblings.{slots_of, in_slot, places_in}
use Rattle.region_tree.specs.Walked.{above, AreForest, bits_in, order_in}
use Rattle.region_tree.proofs.Steps.{ancestor-zero, ancestor-suc, ancestor-none}
use Rattle.region_tree.proofs.PlacesOf.{apart_places, ancestor-place, ids-by_place, keys_many}
use Rattle.region_tree.proofs.Walking.{filter_passes}

-- ---- nested lists under other names
module _ {X Y : Type 0} (put : ℕ → List X → List X) (put' : ℕ → List Y → List Y) (inner inner' : ℕ → List ℕ) (f : ℕ → ℕ) (g : X → Y) (dom : ℕ → Bool)
    (names : (r : ℕ) → dom r ≡ true → inner' (f r) ≡ map f (inner r)) (closed : (r c : ℕ) → dom r ≡ true → has (inner r) c ≡ true → dom c ≡ true) (puts : (r : ℕ) (xs : List X) → put' (f r) (map g xs) ≡ map g (put r xs)) where
  each-renamed : (h : ℕ → List X) (k : ℕ → List Y) (rs : List ℕ) → ((r : ℕ) → has rs r ≡ true → k (f r) ≡ map g (h r)) → flat_map k (map f rs) ≡ map g (flat_map h rs)
  each-renamed h k [] same = refl
  each-renamed h k (r ∷ rs) same =
      ap (λ w. w ++ flat_map k (map f rs)) (same r (or_left _ _ (eq-eqb r r refl))) ∙ ap (λ w. map g (h r) ++ w) (each-renamed h k rs (λ x there. same x (or_right _ _ there)))
      ∙ sym (map-append g (h r) (flat_map h rs))

  pub nested-renamed : (n : ℕ) (rs : List ℕ) → ((r : ℕ) → has rs r ≡ true → dom r ≡ true) → nested put' n inner' (map f rs) ≡ map g (nested put n inner rs)
  unfolding nested
  nested-renamed zero rs within = refl
  nested-renamed (suc n) rs within =
      each-renamed (λ r. put r (nested put n inner (inner r))) (λ r. put' r (nested put' n inner' (inner' r))) rs (λ r there.
      let here = within r there in
      ap (λ w. put' (f r) (nested put' n inner' w)) (names r here) ∙ ap (put' (f r)) (nested-renamed n (inner r) (λ c inside. closed r c here inside)) ∙ puts r (nested put n inner (inner r)))

filter-map : (t : ℕ → Bool) (f : ℕ → ℕ) (xs : List ℕ) → filter t (map f xs) ≡ map f (filter (λ k. t (f k)) xs)
filter-map t f [] = refl
filter-map t f (x ∷ xs) = elim (cases_Bool (t (f x))) [ inl e ↦ rw e (ap (λ w. f x ∷ w) (filter-map t f xs)) | inr e ↦ rw e (filter-map t f xs) ]

filter-range : (t s : ℕ → Bool) (low many : ℕ) → ((k : ℕ) → low ≤ k → k < low + many → t k ≡ s k) → filter t (range_with_len low many) ≡ filter s (range_with_len low many)
filter-range t s low zero same = refl
filter-range t s low (suc many) same =
    let here = same low (omega arith) (omega arith) in
    let more = filter-range t s (low + 1) many (λ k a b. same k (omega arith) (omega arith)) in
    elim (cases_Bool (s low)) [ inl e ↦ rw (here, e) (ap (λ w. low ∷ w) more) | inr e ↦ rw (here, e) more ]

module _ (m : PlaneMap) (ids : List ℕ) (parents : List (Option ℕ)) (are : AreByPlace m ids parents) where
  abbrev n : ℕ
  n = length parents

  abbrev slots : List ℕ
  slots = slots_of parents

  abbrev id_at : ℕ → ℕ
  id_at k = slice_index ids k

  pub slots_long : length slots ≡ n
  slots_long = length-map parents (λ p. unwrap_or p n)

  slot_is : (k : ℕ) → k < n → slice_index slots k ≡ unwrap_or (parent_at parents k) n
  slot_is k l = get_or-map (λ p. unwrap_or p n) parents k None 0 l

  pub slots_within : (k : ℕ) → k < length slots → slice_index slots k ≤ length slots
  slots_within k l =
      let long = slots_long in
      at (parent_at parents k) refl (let is = slot_is k (omega (arith, l, long)) in is)
    where
      at : (o : Option ℕ) → parent_at parents k ≡ o → slice_index slots k ≡ unwrap_or (parent_at parents k) n → slice_index slots k ≤ length slots
      at None e is = let s = is ∙ ap (λ o. unwrap_or o n) e in let long = slots_long in omega (arith, s, long)
      at (Some p) e is = let s = is ∙ ap (λ o. unwrap_or o n) e in let long = slots_long in let w = are.places k p e in omega (arith, s, long, w)

  above_is : (k : ℕ) → k < n → above slots k ≡ parent_at parents k
  above_is k l = at (parent_at parents k) refl
    where
      at : (o : Option ℕ) → parent_at parents k ≡ o → above slots k ≡ parent_at parents k
      at None e =
          let long = slots_long in
          let s : slice_index slots k ≡ n = slot_is k l ∙ ap (λ o. unwrap_or o n) e in
          let far = le-ltb (slice_index slots k) (length slots) (omega (arith, s, long)) in
          rw far (sym e)
      at (Some p) e =
          let long = slots_long in
          let s : slice_index slots k ≡ p = slot_is k l ∙ ap (λ o. unwrap_or o n) e in
          let near = lt-ltb (slice_index slots k) (length slots) (let w = are.places k p e in omega (arith, s, long, w)) in
          rw near (ap Some s ∙ sym e)

  step_same : (j : ℕ) → ((q : ℕ) → q < n → ancestor (above slots) j (Some q) ≡ ancestor (parent_at parents) j (Some q)) → (k : ℕ) (o : Option ℕ) → parent_at parents k ≡ o → ancestor (above slots) j o ≡ ancestor (parent_at parents) j o
  step_same j more k None e = ancestor-none (above slots) j ∙ sym (ancestor-none (parent_at parents) j)
  step_same j more k (Some q) e = more q (are.places k q e)

  above-steps : (j k : ℕ) → k < n → ancestor (above slots) j (Some k) ≡ ancestor (parent_at parents) j (Some k)
  above-steps zero k l = ancestor-zero (above slots) (Some k) ∙ sym (ancestor-zero (parent_at parents) (Some k))
  above-steps (suc j) k l =
      ancestor-suc (above slots) j k ∙ ap (ancestor (above slots) j) (above_is k l) ∙ step_same j (λ q lq. above-steps j q lq) k (parent_at parents k) refl ∙ sym (ancestor-suc (parent_at parents) j k)

  none_place : (o : Option ℕ) → option_map id_at o ≡ None → o ≡ None
  none_place None h = refl
  none_place (Some k) h = cc

  -- where no chain of regions is too long, none of places is
  pub slots_forest : ((r : ℕ) → has m.regions.keys r ≡ true → ancestor (parent m) (length m.regions.keys) (Some r) ≡ None) → AreForest slots
  slots_forest ends = record {
    ends = λ k l.
        let long = slots_long in
        let many = keys_many m ids parents are in
        let within : k < n = omega (arith, l, long) in
        let end = ends (id_at k) (subst (λ xs. has xs (id_at k) ≡ true) are.ids_are (has_place ids k (let e = are.many in omega (arith, within, e)))) in
        ap (λ j. ancestor (above slots) j (Some k)) long ∙ above-steps n k within
        ∙ none_place _ (sym (ancestor-place m ids parents are n k within) ∙ ap (λ j. ancestor (parent m) j (Some (id_at k))) (sym many) ∙ end);
  }

  -- ---- the places in a slot are the regions with a parent, or without one
  places_are : (t : ℕ → Bool) (s : ℕ) → ((k : ℕ) → k < n → t (id_at k) ≡ in_slot slots s k) → filter t m.regions.keys ≡ map id_at (places_in slots s)
  places_are t s same =
      let long = slots_long in
      let e : length slots - 0 ≡ n = omega (arith, long) in
      ap (filter t) (sym are.ids_are ∙ ids-by_place m ids parents are) ∙ filter-map t id_at (range_with_len 0 n)
      ∙ ap (map id_at) (filter-range (λ k. t (id_at k)) (in_slot slots s) 0 n (λ k a b. same k (omega (arith, b))) ∙ ap (λ many. filter (in_slot slots s) (range_with_len 0 many)) (sym e))

  slot_test : (s k : ℕ) → k < n → in_slot slots s k ≡ (unwrap_or (parent_at parents k) n == s)
  slot_test s k l = ap (λ x. x == s) (slot_is k l)

  same_id : (p r : ℕ) → p < n → r < n → (id_at p == id_at r) ≡ (p == r)
  same_id p r lp lr =
      let many = are.many in
      elim (cases_Bool (p == r)) [
        | inl is ↦ rw is (eq-eqb (id_at p) (id_at r) (ap id_at (eqb-true p r is)))
        | inr not ↦ rw not (ne_eqb (id_at p) (id_at r) (λ e. both_ways _ not (eq-eqb p r (apart_places ids are.apart p r (omega arith) (omega arith) e))))
      ]

  child_test : (r k : ℕ) → r < n → k < n → (o : Option ℕ) → parent_at parents k ≡ o → is_at (option_map id_at o) (id_at r) ≡ (unwrap_or o n == r)
  child_test r k lr lk None e = sym (ne_eqb n r (λ s. omega (arith, s, lr)))
  child_test r k lr lk (Some p) e = same_id p r (are.places k p e) lr

  pub children-places : (r : ℕ) → r < n → children m (id_at r) ≡ map id_at (places_in slots r)
  children-places r lr =
      places_are (λ c. is_at (parent m c) (id_at r)) r (λ k lk.
      let many = are.many in
      ap (λ o. is_at o (id_at r)) (are.parent_is k (omega arith)) ∙ child_test r k lr lk (parent_at parents k) refl ∙ sym (slot_test r k lk))

  root_test : (k : ℕ) → k < n → (o : Option ℕ) → parent_at parents k ≡ o → is_none (option_map id_at o) ≡ (unwrap_or o n == n)
  root_test k lk None e = sym (eq-eqb n n refl)
  root_test k lk (Some p) e = sym (ne_eqb p n (λ s. let w = are.places k p e in omega (arith, s, w)))

  pub roots-places : roots m ≡ map id_at (places_in slots n)
  roots-places =
      places_are (λ r. is_none (parent m r)) n (λ k lk.
      let many = are.many in
      ap is_none (are.parent_is k (omega arith)) ∙ root_test k lk (parent_at parents k) refl ∙ sym (slot_test n k lk))

  pub within_places : (s c : ℕ) → has (places_in slots s) c ≡ true → nat_lt c n ≡ true
  within_places s c h =
      let w = from_range 0 (length slots - 0) c (filter_passes (in_slot slots s) (range_with_len 0 (length slots - 0)) c h).1 in
      let long = slots_long in
      lt-ltb c n (omega (arith, w.1, long))

  renamed : {X : Type 0} (put : ℕ → List X → List X) (put' : ℕ → List X → List X) (g : X → X) → ((r : ℕ) (xs : List X) → put' (id_at r) (map g xs) ≡ map g (put r xs))
      → nested put' (length m.regions.keys) (children m) (roots m) ≡ map g (nested put (length slots) (places_in slots) (places_in slots (length slots)))
  renamed put put' g puts =
      let long = slots_long in
      let many = keys_many m ids parents are ∙ sym long in
      ap (λ k. nested put' k (children m) (roots m)) many ∙ ap (nested put' (length slots) (children m)) (roots-places ∙ ap (λ s. map id_at (places_in slots s)) (sym long))
      ∙ nested-renamed put put' (places_in slots) (children m) id_at g (λ k. nat_lt k n) (λ r there. children-places r (ltb-true r n there)) (λ r c there within. within_places r c within) puts (length slots) (places_in slots (length slots)) (λ r there. within_places (length slots) r there)

  -- the ids of the regions by number, and the regions as parentheses, by their places
  pub ids-renamed : region_ids m ≡ map id_at (order_in slots (places_in slots (length slots)))
  unfolding region_ids
  ids-renamed = renamed (λ r within. r ∷ within) (λ r within. r ∷ within) id_at (λ r xs. refl)

  pub bits-renamed : region_bits m ≡ bits_in slots (places_in slots (length slots))
  unfolding region_bits
  bits-renamed =
      renamed (λ r within. true ∷ (within ++ (false ∷ []))) (λ r within. true ∷ (within ++ (false ∷ []))) (λ b. b) (λ r xs. ap (λ w. true ∷ (w ++ (false ∷ []))) (map-id xs) ∙ sym (map-id (true ∷ (xs ++ (false ∷ [])))))
      ∙ map-id (bits_in slots (places_in slots (length slots)))
