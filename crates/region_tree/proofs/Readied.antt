-- Regions that are ready, numbered by their places.
use Rattle.std.specs.Prelude.{filter, flat_map, find, nat_lt, slice_index, slice_get, option_map, unwrap_or}
use Rattle.std.proofs.Common.{◌≡◌, ◌≢◌, ℕ, zero, suc, ◌+◌, ◌-◌, ◌<◌, ◌≤◌, inl, inr, Bool, true, false, ◌==◌, List, [], ◌∷◌, ◌++◌, map, length, get_or, refl, ap, sym, ◌∙◌, subst, arith, Option, Some, None, eq-eqb}
use Rattle.std.specs.List.{range_with_len}
use Rattle.std.specs.List.Sorted.{IsPermutation, IsNonDecreasing, IsNonDecreasingBy}
use Rattle.std.proofs.lemmas.Bool.{cases_lt, eqb-true, ne_eqb, ltb-true, lt-ltb, or_cases, both_ways}
use Rattle.std.proofs.lemmas.List.{get_or-map, length-map}
use Rattle.std.proofs.lemmas.Option.{slice_get-get_or}
use Rattle.bit_words.proofs.Finds.{find-least}
use Rattle.id_names.specs.Names.{number_of}
use Rattle.orbits.proofs.Lists.{distinct_from_images}
use Rattle.orbits.proofs.Numbers.{same_numbers, has_place, place_in}
use Rattle.plane_model.specs.declared.rows.MemberRow.{MemberRow}
use Rattle.plane_model.specs.Sets.{has, is_distinct, rising}
use Rattle.plane_model.specs.PlaneMap.{PlaneMap}
use Rattle.plane_model.specs.Regions.{parent}
use Rattle.region_tree.specs.Ancestors.{parent_at}
use Rattle.region_tree.specs.ByPlace.{AreByPlace}
use Rattle.region_tree.specs.MemberPlaces.{IsMemberPlace, AreMemberPlaces, AreNumbersOf}
use Rattle.region_tree.specs.Parts.{region_ids, region_bits, member_place, member_places}
use Rattle.region_tree.specs.Preorder.{nested, preorder}
use Rattle.region_tree.specs.Ready.{IsReady}
use Rattle.region_tree.specs.Siblings.{slots_of, places_in}
use Rattle.region_tree.specs.Walked.{AreForest, order_in}
use Rattle.region_tree.specs.declared.parts.MemberPlace.{MemberPlace}
use Rattle.region_tree.proofs.Forests.{IsRegionForest, of_flat, ids_apart, ids_are, ids_many}
use Rattle.region_tree.proofs.PlacesOf.{apart_places, keys_many}
use Rattle.region_tree.proofs.Renamed.{slots_long, slots_within, slots_forest, within_places, ids-renamed}
use Rattle.region_tree.proofs.SortedRows.{keys_are, in_rows, row_found}

abbrev face_of : MemberRow → ℕ
face_of x = x.face

abbrev no_member : MemberRow
no_member = record { region = 0; face = 0 }

-- what is nested in places is a place
preorder-within : (dom : ℕ → Bool) (inner : ℕ → List ℕ) → ((r c : ℕ) → dom r ≡ true → has (inner r) c ≡ true → dom c ≡ true) → (k : ℕ) (rs : List ℕ) (x : ℕ) → ((r : ℕ) → has rs r ≡ true → dom r ≡ true) → has (preorder k inner rs) x ≡ true → dom x ≡ true
unfolding nested
preorder-within dom inner closed zero rs x within h = absurd (both_ways false refl h)
preorder-within dom inner closed (suc k) rs x within h =
    let f = of_flat (λ r. r ∷ preorder k inner (inner r)) rs x h in
    let here = within f.0 f.1 in
    elim (or_cases (x == f.0) (has (preorder k inner (inner f.0)) x) f.2) [
      | inl is ↦ subst (λ z. dom z ≡ true) (sym (eqb-true x f.0 is)) here
      | inr more ↦ preorder-within dom inner closed k (inner f.0) x (λ c inside. closed f.0 c here inside) more
    ]

-- a list of what rows give
same_members : (f : MemberRow → MemberPlace) (rows : List MemberRow) (members : List MemberPlace) → length members ≡ length rows
    → ((k : ℕ) (row : MemberRow) (member : MemberPlace) → slice_get rows k ≡ Some row → slice_get members k ≡ Some member → member ≡ f row) → members ≡ map f rows
same_members f [] [] e same = refl
same_members f [] (x ∷ members) e same = absurd (omega arith)
same_members f (r ∷ rows) [] e same = absurd (omega arith)
same_members f (r ∷ rows) (x ∷ members) e same = ap (λ w. w ∷ members) (same 0 r x refl refl) ∙ ap (λ w. f r ∷ w) (same_members f rows members (omega arith) (λ k row member a b. same (suc k) row member a b))

module _ (m : PlaneMap) (ids : List ℕ) (parents : List (Option ℕ)) (members : List MemberRow) (ready : IsReady m ids parents members) where
  abbrev are : AreByPlace m ids parents
  are = ready.regions

  abbrev n : ℕ
  n = length parents

  abbrev slots : List ℕ
  slots = slots_of parents

  abbrev pub order : List ℕ
  order = order_in slots (places_in slots (length slots))

  pub forest : IsRegionForest m
  forest = record { apart = subst (λ xs. is_distinct xs ≡ true) are.ids_are are.apart; inside = ready.inside; ends = ready.ends }

  pub forest_slots : AreForest slots
  forest_slots = slots_forest m ids parents are ready.ends

  pub ids_order : region_ids m ≡ map (slice_index ids) order
  ids_order = ids-renamed m ids parents are

  pub order_long : length order ≡ length ids
  order_long =
      let a = ap length ids_order in
      let b = length-map order (slice_index ids) in
      let c = ids_many m forest in
      let d = keys_many m ids parents are in
      let e = are.many in
      omega (arith, a, b, c, d, e)

  in_order : (x : ℕ) → has order x ≡ true → nat_lt x n ≡ true
  in_order x h =
      preorder-within (λ k. nat_lt k n) (places_in slots) (λ r c there inside. within_places m ids parents are r c inside) (length slots) (places_in slots (length slots)) x (λ r there. within_places m ids parents are (length slots) r there) h

  pub order_within : (x : ℕ) → x < length order → slice_index order x < length ids
  order_within x l = let w = ltb-true (slice_index order x) n (in_order (slice_index order x) (has_place order x l)) in let e = are.many in omega (arith, w, e)

  pub order_apart : is_distinct order ≡ true
  order_apart = distinct_from_images same_numbers (slice_index ids) order (subst (λ xs. is_distinct xs ≡ true) ids_order (ids_apart m forest))

  -- the number of a region is that of its place
  number-place : (numbers : List ℕ) → AreNumbersOf order numbers → (p : ℕ) → p < length ids → number_of (region_ids m) (slice_index ids p) ≡ Some (slice_index numbers p)
  unfolding number_of
  number-place numbers is p l =
      let there : has (region_ids m) (slice_index ids p) ≡ true = ids_are m forest (slice_index ids p) ∙ subst (λ xs. has xs (slice_index ids p) ≡ true) are.ids_are (has_place ids p l) in
      let x = place_in (region_ids m) (slice_index ids p) there in
      let long = ap length ids_order ∙ length-map order (slice_index ids) in
      let within : x.0 < length order = omega (arith, x.1, long) in
      let at : slice_index (region_ids m) x.0 ≡ slice_index ids (slice_index order x.0) = ap (λ xs. slice_index xs x.0) ids_order ∙ get_or-map (slice_index ids) order x.0 0 0 within in
      let same : slice_index order x.0 ≡ p = apart_places ids are.apart (slice_index order x.0) p (order_within x.0 within) l (sym at ∙ x.2) in
      let number : slice_index numbers p ≡ x.0 = ap (slice_index numbers) (sym same) ∙ is.number x.0 within in
      find-least (λ k. slice_index (region_ids m) k == slice_index ids p) 0 (length (region_ids m)) x.0 (record {
        from = omega arith;
        within = omega (arith, x.1);
        passes = eq-eqb _ _ x.2;
        before = λ q a b. ne_eqb _ _ (λ e. let one = apart_places (region_ids m) (ids_apart m forest) q x.0 (omega (arith, b, x.1)) x.1 (e ∙ sym x.2) in omega (arith, one, b));
      })
      ∙ ap Some (sym number)

  module _ (rows : List MemberRow) (same : IsPermutation members rows) (up : IsNonDecreasingBy face_of rows) where
    pub row_there : (k : ℕ) (row : MemberRow) → slice_get rows k ≡ Some row → has ids row.region ≡ true
    row_there k row h = let j = in_rows face_of members rows same up k row h in ready.there j.0 row j.1

    member-is : (numbers : List ℕ) → AreNumbersOf order numbers → (k : ℕ) (row : MemberRow) (member : MemberPlace) → slice_get rows k ≡ Some row → IsMemberPlace ids numbers row member → member ≡ member_place m row.face
    member-is numbers is k row member h at =
        let found : m.members.at row.face ≡ Some row.region = ready.at row.face ∙ ap (option_map (λ x. x.region)) (row_found face_of members rows same up ready.faces_apart k row h) in
        let number : number_of (region_ids m) row.region ≡ Some (slice_index numbers at.place) = ap (number_of (region_ids m)) (sym at.id) ∙ number-place numbers is at.place at.within in
        let region : member.region ≡ unwrap_or (number_of (region_ids m) (unwrap_or (m.members.at row.face) 0)) 0 =
        at.number ∙ sym (ap (λ o. unwrap_or o 0) (ap (λ o. number_of (region_ids m) (unwrap_or o 0)) found ∙ number)) in
        ap (λ f. record { face = f; region = member.region }) at.face ∙ ap (λ r. record { face = row.face; region = r }) region

    pub members-are : (numbers : List ℕ) → AreNumbersOf order numbers → (places : List MemberPlace) → AreMemberPlaces ids numbers rows places → places ≡ member_places m
    unfolding member_places
    members-are numbers is places at =
        let keys : m.members.keys ≡ map face_of rows = ready.faces ∙ sym (keys_are face_of members rows same up no_member) in
        same_members (λ row. member_place m row.face) rows places at.many (λ k row member a b. member-is numbers is k row member a (at.at k row member a b))
        ∙ each rows ∙ ap (map (member_place m)) (sym keys)
      where
        each : (rows : List MemberRow) → map (λ (row : MemberRow). member_place m row.face) rows ≡ map (member_place m) (map face_of rows)
        each [] = refl
        each (r ∷ rows) = ap (λ w. member_place m r.face ∷ w) (each rows)
