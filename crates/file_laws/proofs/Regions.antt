-- The regions of whole contents are a forest.
use Rattle.std.specs.Prelude.{not, map, flat_map, find, slice_index, unwrap_or, option_map, option_and_then, is_some}
use Rattle.std.specs.Option.{option_or}
use Rattle.std.proofs.Common.{◌≡◌, ℕ, zero, suc, ◌+◌, ◌-◌, ◌<◌, ◌≤◌, ◌⊎◌, inl, inr, Bool, true, false, ◌&&◌, ◌||◌, List, [], ◌∷◌, ◌++◌, length, refl, ap, sym, ◌∙◌, arith, subst, Option, Some, None, ◌==◌}
use Rattle.std.specs.List.{list_all}
use Rattle.std.proofs.lemmas.List.Folds.{find-append}
use Rattle.std.proofs.lemmas.Bool.{cases_Bool, and_parts, and_from, eqb-true, eqb-false, eq-eqb, le-leb, both_ways, not-true, or_left, or_right, or_cases, false_from_ne_true}
use Rattle.plane_model.specs.declared.rows.RegionRow.{RegionRow}
use Rattle.plane_model.specs.declared.rows.MemberRow.{MemberRow}
use Rattle.plane_model.specs.Sets.{rising, has, is_distinct}
use Rattle.plane_model.specs.PlaneMap.{PlaneMap, map_of}
use Rattle.plane_model.specs.Rotation.{is_face}
use Rattle.plane_model.specs.InRange.{is_id, is_face_id, is_none_or}
use Rattle.plane_model.specs.Regions.{parent, upward, parents, is_region, is_region_or_none, is_region_forest}
use Rattle.plane_model.proofs.Sorting.{rising-has}
use Rattle.bit_words.specs.Bits.{rank, select}
use Rattle.rank_select.proofs.Selects.{select-placed}
use Rattle.parens.specs.Matching.{is_open, close_of, is_from, is_enclosing, innermost}
use Rattle.parens.proofs.Greatest.{greatest-find}
use Rattle.code_laws.proofs.Apart.{fewer}
use Rattle.code_laws.proofs.Edges.{half}
use Rattle.id_names.specs.Names.{number_of}
use Rattle.id_names.proofs.NumberLaws.{number_of-at}
use Rattle.file_laws.specs.Contents.{Contents}
use Rattle.region_tree.specs.Nesting.{parent_number}
use Rattle.file_laws.specs.MapOfFile.{region_row, member_row, place_of_face, rows_of_contents}
use Rattle.file_laws.proofs.Lists.{keys_kept, each_row, names_apart, rising_apart, has-index, index-has, id_fits, id_small}
use Rattle.file_laws.proofs.Bridge.{row_found, has-rising}
use Rattle.file_laws.proofs.Whole.{WholeParts}
use Rattle.file_laws.proofs.Rotation.{face_there}

-- what holds of each row that each number gives holds of all
all_flat : {R : Type 0} (test : R → Bool) (f : ℕ → List R) (xs : List ℕ) → ((x : ℕ) → has xs x ≡ true → list_all test (f x) ≡ true) → list_all test (flat_map f xs) ≡ true
all_flat test f [] h = refl
all_flat test f (x ∷ xs) h = all_append test (f x) (flat_map f xs) (h x (or_left _ _ (eq-eqb x x refl))) (all_flat test f xs (λ y k. h y (or_right _ _ k)))
  where
    all_append : {R : Type 0} (test : R → Bool) (xs ys : List R) → list_all test xs ≡ true → list_all test ys ≡ true → list_all test (xs ++ ys) ≡ true
    all_append test [] ys h k = k
    all_append test (x ∷ xs) ys h k = let p = and_parts (test x) (list_all test xs) h in and_from _ _ p.0 (all_append test xs ys p.1 k)

-- lists of at most one row each, with its number
module _ {R : Type 0} (key : R → ℕ) (f : ℕ → List R) (own : (x : ℕ) → (f x ≡ []) ⊎ ((r : R) × (f x ≡ r ∷ []) × (key r ≡ x))) where
  flat_keys : (xs : List ℕ) (y : ℕ) → has (map key (flat_map f xs)) y ≡ true → has xs y ≡ true
  flat_keys [] y h = h
  flat_keys (x ∷ xs) y h =
      elim (own x) [
        | inl none ↦ or_right _ _ (flat_keys xs y (subst (λ rs. has (map key (rs ++ flat_map f xs)) y ≡ true) none h))
        | inr one ↦
            let h' : ((y == key one.0) || has (map key (flat_map f xs)) y) ≡ true = subst (λ rs. has (map key (rs ++ flat_map f xs)) y ≡ true) one.1 h in
            elim (or_cases (y == key one.0) (has (map key (flat_map f xs)) y) h') [
              | inl a ↦ or_left _ _ (eq-eqb y x (eqb-true _ _ a ∙ one.2))
              | inr m ↦ or_right _ _ (flat_keys xs y m)
            ]
      ]

  pub flat_apart : (xs : List ℕ) → is_distinct xs ≡ true → is_distinct (map key (flat_map f xs)) ≡ true
  flat_apart [] h = refl
  flat_apart (x ∷ xs) h =
      let parts = and_parts (not (has xs x)) (is_distinct xs) h in
      let more = flat_apart xs parts.1 in
      elim (own x) [
        | inl none ↦ subst (λ rs. is_distinct (map key (rs ++ flat_map f xs)) ≡ true) (sym none) more
        | inr one ↦
            let out : has (map key (flat_map f xs)) (key one.0) ≡ false = false_from_ne_true _ (λ there.
            both_ways _ (not-true _ parts.0) (subst (λ z. has xs z ≡ true) one.2 (flat_keys xs (key one.0) there))) in
            subst (λ rs. is_distinct (map key (rs ++ flat_map f xs)) ≡ true) (sym one.1) (and_from _ _ (rw out refl) more)
      ]

  pub flat_few : (xs : List ℕ) → length (flat_map f xs) ≤ length xs
  flat_few [] = omega arith
  flat_few (x ∷ xs) =
      let more = flat_few xs in
      elim (own x) [
        | inl none ↦ subst (λ rs. length (rs ++ flat_map f xs) ≤ suc (length xs)) (sym none) (omega (arith, more))
        | inr one ↦ subst (λ rs. length (rs ++ flat_map f xs) ≤ suc (length xs)) (sym one.1) (omega (arith, more))
      ]

  -- the row of a number is the one that it gives, if it gives one
  pub flat_find : (xs : List ℕ) (y : ℕ) → is_distinct xs ≡ true → has xs y ≡ true → find (λ r. key r == y) (flat_map f xs) ≡ find (λ r. key r == y) (f y)
  flat_find [] y apart h = cc
  flat_find (x ∷ xs) y apart h =
      let parts = and_parts (not (has xs x)) (is_distinct xs) apart in
      let split = find-append (λ r. key r == y) (f x) (flat_map f xs) in
      elim (cases_Bool (y == x)) [
        | inl is ↦
            let e : y ≡ x = eqb-true y x is in
            let gone : find (λ r. key r == y) (flat_map f xs) ≡ None = none_found xs y (false_from_ne_true _ (λ there. both_ways _ (not-true _ parts.0) (subst (λ z. has xs z ≡ true) e there))) in
            split ∙ ap (option_or (find (λ r. key r == y) (f x))) gone ∙ option_or_none (find (λ r. key r == y) (f x)) ∙ ap (λ z. find (λ r. key r == y) (f z)) (sym e)
        | inr isnt ↦
            let there : has xs y ≡ true = elim (or_cases (y == x) (has xs y) h) [ inl a ↦ absurd (both_ways _ isnt a) | inr k ↦ k ] in
            split ∙ ap (λ o. option_or o (find (λ r. key r == y) (flat_map f xs))) (none_of x y isnt) ∙ flat_find xs y parts.1 there
      ]
    where
      option_or_none : {X : Type 0} (o : Option X) → option_or o None ≡ o
      option_or_none None = refl
      option_or_none (Some x) = refl

      none_of : (x y : ℕ) → (y == x) ≡ false → find (λ r. key r == y) (f x) ≡ None
      none_of x y isnt =
          elim (own x) [
            | inl none ↦ ap (find (λ r. key r == y)) none
            | inr one ↦
                let other : (key one.0 == y) ≡ false = false_from_ne_true _ (λ same. both_ways _ isnt (eq-eqb y x (sym (eqb-true _ _ same) ∙ one.2))) in
                ap (find (λ r. key r == y)) one.1 ∙ rw other refl
          ]

      none_found : (xs : List ℕ) (y : ℕ) → has xs y ≡ false → find (λ r. key r == y) (flat_map f xs) ≡ None
      none_found [] y h = refl
      none_found (x ∷ xs) y h =
          let p = or_false (y == x) (has xs y) h in
          find-append (λ r. key r == y) (f x) (flat_map f xs) ∙ ap (λ o. option_or o (find (λ r. key r == y) (flat_map f xs))) (none_of x y p.0) ∙ none_found xs y p.1
        where
          or_false : (a b : Bool) → (a || b) ≡ false → (a ≡ false) × (b ≡ false)
          or_false false false e = (refl, refl)
          or_false false true e = cc
          or_false true b e = cc

module _ (c : Contents) (w : WholeParts c) where
  abbrev m : PlaneMap
  m = map_of (rows_of_contents c)

  pub region_ids : map (λ (r : RegionRow). r.id) (rows_of_contents c).regions ≡ rising c.regions
  region_ids = keys_kept (λ (r : RegionRow). r.id) (λ id. region_row c id (unwrap_or (number_of c.regions id) 0)) (λ x. refl) (rising c.regions)

  regions_apart : is_distinct (map (λ (r : RegionRow). r.id) (rows_of_contents c).regions) ≡ true
  regions_apart = rw region_ids (rising_apart c.regions (names_apart c.regions w.region_names))

  number_at : (x : ℕ) → x < length c.regions → unwrap_or (number_of c.regions (slice_index c.regions x)) 0 ≡ x
  number_at x l = ap (λ o. unwrap_or o 0) (number_of-at c.regions x (slice_index c.regions x) w.region_names.distinct l refl)

  region_row_at : (x : ℕ) → x < length c.regions → m.regions.at (slice_index c.regions x) ≡ Some (region_row c (slice_index c.regions x) x).parent
  region_row_at x l =
      let id = slice_index c.regions x in
      let f = row_found (λ (r : RegionRow). r.id) (λ id. region_row c id (unwrap_or (number_of c.regions id) 0)) (λ y. refl) (rising c.regions) id (has-rising id c.regions (has-index c.regions x l)) in
      ap (option_map (λ (r : RegionRow). r.parent)) f ∙ ap (λ n. Some (region_row c id n).parent) (number_at x l)

  region_there : (x : ℕ) → x < length c.regions → is_region m (slice_index c.regions x) ≡ true
  region_there x l = ap is_some (region_row_at x l)

  pub parent_at : (x : ℕ) → x < length c.regions → parent m (slice_index c.regions x) ≡ option_map (slice_index c.regions) (parent_number c.region_bits x)
  parent_at x l = ap (option_and_then (λ (p : Option ℕ). p)) (region_row_at x l)

  -- a parent has a lower number
  lower_at : (x p y : ℕ) → p ≤ length c.region_bits → rank true c.region_bits p ≡ x → (o : Option ℕ) → innermost c.region_bits p ≡ o → option_map (rank true c.region_bits) o ≡ Some y → y < x
  unfolding innermost
  lower_at x p y l e None i h = cc
  lower_at x p y l e (Some k) i h =
      let g = greatest-find (is_enclosing c.region_bits p) p k i in
      let opens = (and_parts (is_open c.region_bits k) (is_from p (close_of c.region_bits k)) g.passes).0 in
      let less = fewer c.region_bits w.regions_nest k p g.below l opens in
      let same : rank true c.region_bits k ≡ y = cc in
      omega (arith, less, same, e)

  lower : (x y : ℕ) → x < length c.regions → parent_number c.region_bits x ≡ Some y → y < x
  unfolding parent_number
  lower x y l h =
      let many = half c.region_bits w.regions_nest in
      let bits = w.sizes.region_bits in
      let p = select-placed true c.region_bits x (omega (arith, l, many, bits)) in
      let at : unwrap_or (select true c.region_bits x) 0 ≡ p.0 = ap (λ o. unwrap_or o 0) p.1 in
      let h' : option_map (rank true c.region_bits) (innermost c.region_bits p.0) ≡ Some y = subst (λ q. option_map (rank true c.region_bits) (innermost c.region_bits q) ≡ Some y) at h in
      lower_at x p.0 y (let v = p.2.within in omega (arith, v)) p.2.rank (innermost c.region_bits p.0) refl h'

  -- a chain of parents from below a number does not come to it
  chain_below : (x : ℕ) → x < length c.regions → (n : ℕ) (o : Option ℕ) → ((y : ℕ) → o ≡ Some y → y < x) → has (upward n m (option_map (slice_index c.regions) o)) (slice_index c.regions x) ≡ true → ⊥
  unfolding upward
  chain_below x l zero o below h = cc
  chain_below x l (suc n) None below h = cc
  chain_below x l (suc n) (Some y) below h =
      let less = below y refl in
      let y_in : y < length c.regions = omega (arith, less, l) in
      elim (or_cases (slice_index c.regions x == slice_index c.regions y) (has (upward n m (parent m (slice_index c.regions y))) (slice_index c.regions x)) h) [
        | inl a ↦ let same = w.region_names.distinct x y l y_in (eqb-true _ _ a) in absurd (omega (arith, same, less))
        | inr more ↦
            let more' : has (upward n m (option_map (slice_index c.regions) (parent_number c.region_bits y))) (slice_index c.regions x) ≡ true
            = subst (λ o. has (upward n m o) (slice_index c.regions x) ≡ true) (parent_at y y_in) more in
            chain_below x l n (parent_number c.region_bits y) (λ z e. let k = lower y z y_in e in omega (arith, k, less)) more'
      ]

  not_again : (x : ℕ) → x < length c.regions → not (has (parents m (slice_index c.regions x)) (slice_index c.regions x)) ≡ true
  not_again x l =
      let none : has (parents m (slice_index c.regions x)) (slice_index c.regions x) ≡ false = false_from_ne_true _ (λ h.
      chain_below x l (length m.regions.keys) (parent_number c.region_bits x) (λ y e. lower x y l e) (subst (λ o. has (upward (length m.regions.keys) m o) (slice_index c.regions x) ≡ true) (parent_at x l) h)) in
      rw none refl

  parent_there : (x : ℕ) → x < length c.regions → (o : Option ℕ) → parent_number c.region_bits x ≡ o → is_region_or_none m (option_map (slice_index c.regions) o) ≡ true
  parent_there x l None e = refl
  parent_there x l (Some y) e = let less = lower x y l e in region_there y (omega (arith, less, l))

  row_parent : (x : ℕ) → x < length c.regions → (region_row c (slice_index c.regions x) (unwrap_or (number_of c.regions (slice_index c.regions x)) 0)).parent ≡ option_map (slice_index c.regions) (parent_number c.region_bits x)
  row_parent x l = ap (λ n. (region_row c (slice_index c.regions x) n).parent) (number_at x l)

  parents_there : list_all (λ (r : RegionRow). is_region_or_none m r.parent) (rows_of_contents c).regions ≡ true
  parents_there =
      each_row (λ (r : RegionRow). is_region_or_none m r.parent) c.regions (λ id. region_row c id (unwrap_or (number_of c.regions id) 0)) (λ x l.
      ap (is_region_or_none m) (row_parent x l) ∙ parent_there x l (parent_number c.region_bits x) refl)

  none_again : list_all (λ (r : RegionRow). not (has (parents m r.id) r.id)) (rows_of_contents c).regions ≡ true
  none_again = each_row (λ (r : RegionRow). not (has (parents m r.id) r.id)) c.regions (λ id. region_row c id (unwrap_or (number_of c.regions id) 0)) not_again

  -- members
  abbrev pub of_face : ℕ → List MemberRow
  of_face face = member_row c face (place_of_face c face)

  pub one_row : (face : ℕ) → (of_face face ≡ []) ⊎ ((r : MemberRow) × (of_face face ≡ r ∷ []) × (r.face ≡ face))
  one_row face =
      let region = slice_index c.members (place_of_face c face) in
      elim (cases_Bool (region == 0)) [
        | inl e ↦ inl (rw e refl)
        | inr e ↦ inr (record { region = slice_index c.regions (region - 1); face = face }, rw e refl, refl)
      ]

  pub faces_apart : is_distinct (0 ∷ rising c.faces) ≡ true
  faces_apart =
      let none : has (rising c.faces) 0 ≡ false = false_from_ne_true _ (λ there.
      let r = index-has c.faces 0 (sym (rising-has c.faces 0) ∙ there) in
      let low = (w.face_names.in_range r.0 r.1).0 in
      absurd (omega (arith, low, r.2))) in
      and_from _ _ (rw none refl) (rising_apart c.faces (names_apart c.faces w.face_names))

  pub members_apart : is_distinct (map (λ (x : MemberRow). x.face) (rows_of_contents c).members) ≡ true
  members_apart = flat_apart (λ (x : MemberRow). x.face) of_face one_row (0 ∷ rising c.faces) faces_apart

  pub members_few : length (rows_of_contents c).members ≤ length (rising c.faces) + 1
  members_few = let f = flat_few (λ (x : MemberRow). x.face) of_face one_row (0 ∷ rising c.faces) in omega (arith, f)

  is_face_of : (face : ℕ) → has (0 ∷ rising c.faces) face ≡ true → is_face m face ≡ true
  is_face_of face h =
      elim (or_cases (face == 0) (has (rising c.faces) face) h) [
        | inl a ↦ or_left _ _ a
        | inr there ↦
            let r = index-has c.faces face (sym (rising-has c.faces face) ∙ there) in
            or_right _ _ (subst (λ f. has m.faces f ≡ true) r.2 (face_there c w r.0 r.1))
      ]

  region_in : (place : ℕ) → (slice_index c.members place == 0) ≡ false → slice_index c.members place - 1 < length c.regions
  region_in place e = let most = w.members place in let some = eqb-false _ _ e in omega (arith, most, some)

  -- what holds of each region and of each face holds of each member
  pub each_member : (test : MemberRow → Bool) → ((face place : ℕ) → has (0 ∷ rising c.faces) face ≡ true → slice_index c.members place - 1 < length c.regions
      → test (record { region = slice_index c.regions (slice_index c.members place - 1); face = face }) ≡ true) → list_all test (rows_of_contents c).members ≡ true
  each_member test h =
      all_flat test of_face (0 ∷ rising c.faces) (λ face there.
      let region = slice_index c.members (place_of_face c face) in
      elim (cases_Bool (region == 0)) [
        | inl e ↦ rw e refl
        | inr e ↦ rw e (and_from _ _ (h face (place_of_face c face) there (region_in (place_of_face c face) e)) refl)
      ])

  members_there : list_all (λ (x : MemberRow). is_region m x.region && is_face m x.face) (rows_of_contents c).members ≡ true
  members_there = each_member (λ (x : MemberRow). is_region m x.region && is_face m x.face) (λ face place there l. and_from _ _ (region_there (slice_index c.members place - 1) l) (is_face_of face there))

  pub forest : is_region_forest (rows_of_contents c) ≡ true
  forest = and_from _ _ (and_from _ _ (and_from _ _ (and_from _ _ regions_apart parents_there) none_again) members_there) members_apart

  -- regions and members in range
  parent_fits : (o : Option ℕ) → ((y : ℕ) → o ≡ Some y → y < length c.regions) → is_none_or is_id (option_map (slice_index c.regions) o) ≡ true
  parent_fits None h = refl
  parent_fits (Some y) h = id_fits c.regions w.region_names y (h y refl)

  pub regions_fit : list_all (λ (r : RegionRow). is_id r.id && is_none_or is_id r.parent) (rows_of_contents c).regions ≡ true
  regions_fit =
      each_row (λ (r : RegionRow). is_id r.id && is_none_or is_id r.parent) c.regions (λ id. region_row c id (unwrap_or (number_of c.regions id) 0)) (λ x l.
      and_from _ _ (id_fits c.regions w.region_names x l)
      (ap (is_none_or is_id) (row_parent x l) ∙ parent_fits (parent_number c.region_bits x) (λ y e. let less = lower x y l e in omega (arith, less, l))))

  face_fits_of : (face : ℕ) → has (0 ∷ rising c.faces) face ≡ true → is_face_id face ≡ true
  face_fits_of face h =
      elim (or_cases (face == 0) (has (rising c.faces) face) h) [
        | inl a ↦ let e = eqb-true _ _ a in le-leb _ _ (omega (arith, e))
        | inr there ↦
            let r = index-has c.faces face (sym (rising-has c.faces face) ∙ there) in
            let small = id_small c.faces w.face_names r.0 in
            le-leb _ _ (omega (arith, small, r.2))
      ]

  pub members_fit : list_all (λ (r : MemberRow). is_id r.region && is_face_id r.face) (rows_of_contents c).members ≡ true
  members_fit = each_member (λ (r : MemberRow). is_id r.region && is_face_id r.face) (λ face place there l. and_from _ _ (id_fits c.regions w.region_names (slice_index c.members place - 1) l) (face_fits_of face there))
