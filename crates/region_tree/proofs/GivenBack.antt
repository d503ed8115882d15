-- Regions by number give a map's regions and members back.
use Rattle.std.specs.Prelude.{find, slice_index, slice_get, option_map, unwrap_or, is_some, nat_le}
use Rattle.std.proofs.Common.{◌≡◌, ◌≢◌, ℕ, zero, suc, ◌+◌, ◌-◌, ◌*◌, ◌<◌, ◌≤◌, inl, inr, Bool, true, false, not, ◌&&◌, ◌==◌, List, [], ◌∷◌, map, length, get_or, refl, ap, sym, ◌∙◌, subst, arith, Option, Some, None, eq-eqb}
use Rattle.std.specs.List.{range_with_len, list_all}
use Rattle.std.proofs.lemmas.Bool.{cases_Bool, and_parts, and_from, both_ways, eqb-true, ne_eqb, leb-true, or_cases, or_left, or_right}
use Rattle.bit_words.proofs.Finds.{find-least}
use Rattle.id_names.specs.Names.{AreDistinctIds, number_of}
use Rattle.orbits.proofs.Numbers.{has_place, place_in}
use Rattle.topo_base.specs.declared.id.TheConstants.{LARGEST_ID}
use Rattle.plane_model.specs.declared.rows.RegionRow.{RegionRow}
use Rattle.plane_model.specs.declared.rows.MemberRow.{MemberRow}
use Rattle.plane_model.specs.InRange.{is_in_range, is_id, is_none_or}
use Rattle.plane_model.specs.Rows.{Rows}
use Rattle.plane_model.specs.Sets.{has, is_distinct}
use Rattle.plane_model.specs.PlaneMap.{PlaneMap, map_of}
use Rattle.plane_model.specs.Rotation.{is_face}
use Rattle.plane_model.specs.Regions.{is_region, is_region_forest}
use Rattle.plane_model.proofs.FaultParts.{has_key_at}
use Rattle.plane_model.proofs.Lookups.{find_key}
use Rattle.plane_model.proofs.Sorting.{rising-has, among}
use Rattle.region_tree.specs.Numbering.{RegionsAreNumbered, AreMembers}
use Rattle.region_tree.specs.Parts.{region_ids, region_bits, member_place, member_places}
use Rattle.region_tree.specs.declared.parts.MemberPlace.{MemberPlace}
use Rattle.region_tree.proofs.Forests.{IsRegionForest, region_forest, ids_apart, ids_are, ids_many, bits_balanced, bits_open, bits_long, parent_back}
use Rattle.region_tree.proofs.PlacesOf.{apart_places}
use Rattle.region_tree.proofs.Stacks.{balanced_all}

-- the number of an id that is there
pub number-found : (ids : List ℕ) (id : ℕ) → is_distinct ids ≡ true → has ids id ≡ true → (x : ℕ) × (number_of ids id ≡ Some x) × (x < length ids) × (slice_index ids x ≡ id)
unfolding number_of
number-found ids id apart there =
    let x = place_in ids id there in (
      x.0,
      find-least (λ k. slice_index ids k == id) 0 (length ids) x.0 (record {
        from = omega arith;
        within = omega (arith, x.1);
        passes = eq-eqb _ _ x.2;
        before = λ q a b. ne_eqb _ _ (λ e. let one = apart_places ids apart q x.0 (omega (arith, b, x.1)) x.1 (e ∙ sym x.2) in omega (arith, one, b));
      }),
      x.1,
      x.2,
    )

find-face : (f : ℕ → MemberPlace) → ((k : ℕ) → (f k).face ≡ k) → (keys : List ℕ) (x : ℕ) → has keys x ≡ true → find (λ p. p.face == x) (map f keys) ≡ Some (f x)
find-face f own [] x h = absurd (both_ways false refl h)
find-face f own (k ∷ keys) x h =
    elim (cases_Bool ((f k).face == x)) [
      | inl is ↦ rw is (ap (λ z. Some (f z)) (sym (own k) ∙ eqb-true _ _ is))
      | inr not ↦ rw not (find-face f own keys x (elim (or_cases (x == k) (has keys x) h) [
        | inl same ↦ absurd (both_ways _ not (eq-eqb _ _ (own k ∙ sym (eqb-true x k same))))
        | inr more ↦ more
      ]))
    ]

no-face : (f : ℕ → MemberPlace) → ((k : ℕ) → (f k).face ≡ k) → (keys : List ℕ) (x : ℕ) → has keys x ≡ false → find (λ p. p.face == x) (map f keys) ≡ None
no-face f own [] x h = refl
no-face f own (k ∷ keys) x h =
    elim (cases_Bool ((f k).face == x)) [
      | inl is ↦ absurd (both_ways _ h (or_left _ _ (eq-eqb x k (sym (sym (own k) ∙ eqb-true _ _ is)))))
      | inr not ↦ rw not (no-face f own keys x (elim (cases_Bool (has keys x)) [ inl there ↦ absurd (both_ways _ h (or_right (x == k) _ there)) | inr none ↦ none ]))
    ]

-- what is found passes what all pass
pub found-passes : {R : Type 0} (p t : R → Bool) (xs : List R) (x : R) → list_all p xs ≡ true → find t xs ≡ Some x → p x ≡ true
found-passes p t [] x h e = cc
found-passes p t (y ∷ ys) x h e =
    let parts = and_parts (p y) (list_all p ys) h in
    elim (cases_Bool (t y)) [
      | inl is ↦ let same : ◌≡◌ {A = Option _} (Some y) (Some x) = rw is at e in let s : y ≡ x = cc in subst (λ z. p z ≡ true) s parts.0
      | inr not ↦ found-passes p t ys x parts.1 (rw not at e)
    ]

faces_same : (f : ℕ → MemberPlace) → ((k : ℕ) → (f k).face ≡ k) → (keys : List ℕ) → map (λ p. p.face) (map f keys) ≡ keys
faces_same f own [] = refl
faces_same f own (k ∷ keys) = ap (λ w. w ∷ map (λ p. p.face) (map f keys)) (own k) ∙ ap (λ w. k ∷ w) (faces_same f own keys)

member-at : (f : ℕ → MemberPlace) (keys : List ℕ) (k : ℕ) (p : MemberPlace) → slice_get (map f keys) k ≡ Some p → (x : ℕ) × (has keys x ≡ true) × (p ≡ f x)
member-at f [] k p h = cc
member-at f (x ∷ keys) zero p h = (x, or_left _ _ (eq-eqb x x refl), (let e : f x ≡ p = cc in sym e))
member-at f (x ∷ keys) (suc k) p h = let more = member-at f keys k p h in (more.0, or_right _ _ more.1, more.2)

all-ids : (regions : List RegionRow) → list_all (λ (r : RegionRow). is_id r.id && is_none_or is_id r.parent) regions ≡ true → list_all is_id (map (λ (r : RegionRow). r.id) regions) ≡ true
all-ids [] h = refl
all-ids (r ∷ regions) h =
    let parts = and_parts _ _ h in
    let own = and_parts (is_id r.id) (is_none_or is_id r.parent) parts.0 in
    and_from _ _ own.0 (all-ids regions parts.1)

pub ids_fit : (t : Rows) → is_in_range t ≡ true → list_all is_id (map (λ (r : RegionRow). r.id) t.regions) ≡ true
ids_fit t h =
    let a = and_parts _ _ h in
    let b = and_parts _ _ a.0 in
    let c = and_parts _ _ b.0 in
    let d = and_parts _ _ c.0 in
    let e = and_parts _ _ d.0 in
    let f = and_parts _ _ e.0 in
    all-ids t.regions (and_parts _ _ f.0).1

module _ (t : Rows) (range : is_in_range t ≡ true) (h : is_region_forest t ≡ true) where
  abbrev m : PlaneMap
  m = map_of t

  abbrev ids : List ℕ
  ids = region_ids (map_of t)

  forest : IsRegionForest m
  forest = region_forest t h

  apart : is_distinct ids ≡ true
  apart = ids_apart m forest

  id_fits : (x : ℕ) → has ids x ≡ true → (1 ≤ x) × (x < LARGEST_ID + 1)
  id_fits x there =
      let fine = among is_id (map (λ (r : RegionRow). r.id) t.regions) x (ids_fit t range) (sym (rising-has (map (λ (r : RegionRow). r.id) t.regions) x) ∙ sym (ids_are m forest x) ∙ there) in
      let p = and_parts _ _ fine in
      (leb-true _ _ p.0, omega (arith, leb-true _ _ p.1))

  names : AreDistinctIds (LARGEST_ID + 1) ids
  names = record {
    in_range = λ k l. id_fits (slice_index ids k) (has_place ids k l);
    distinct = λ j k lj lk e. apart_places ids apart j k lj lk e;
  }

  -- a member's region is there
  region_of : (f r : ℕ) → m.members.at f ≡ Some r → has ids r ≡ true
  region_of f r e = ids_are m forest r ∙ has_key_at (λ r. r.id) (λ r. r.parent) t.regions r ∙ there (find (λ x. x.face == f) t.members) refl e
    where
      members_fine : list_all (λ x. is_region (map_of t) x.region && is_face (map_of t) x.face) t.members ≡ true
      members_fine = (and_parts _ (list_all (λ x. is_region (map_of t) x.region && is_face (map_of t) x.face) t.members) (and_parts _ (is_distinct (map (λ x. x.face) t.members)) h).0).1

      there : (o : Option MemberRow) → find (λ x. x.face == f) t.members ≡ o → option_map (λ x. x.region) o ≡ Some r → is_region (map_of t) r ≡ true
      there None found e = cc
      there (Some x) found e =
          let same : x.region ≡ r = cc in
          subst (λ z. is_region (map_of t) z ≡ true) same (and_parts (is_region (map_of t) x.region) (is_face (map_of t) x.face) (found-passes (λ x. is_region (map_of t) x.region && is_face (map_of t) x.face) (λ x. x.face == f) t.members x members_fine found)).0

  own : (f : ℕ) → (member_place m f).face ≡ f
  own f = refl

  region_back : (f r : ℕ) → m.members.at f ≡ Some r → ((member_place m f).region < length ids) × (slice_index ids (member_place m f).region ≡ r)
  region_back f r e =
      let x = number-found ids r apart (region_of f r e) in
      let same : (member_place m f).region ≡ x.0 = ap (λ o. unwrap_or (number_of ids (unwrap_or o 0)) 0) e ∙ ap (λ o. unwrap_or o 0) x.1 in
      (omega (arith, same, x.2), ap (slice_index ids) same ∙ x.3)

  member_some : (f : ℕ) → has m.members.keys f ≡ true → (r : ℕ) × (m.members.at f ≡ Some r)
  member_some f h = at (m.members.at f) (sym (has_key_at (λ x. x.face) (λ x. x.region) t.members f) ∙ h)
    where
      at : (o : Option ℕ) → is_some o ≡ true → (r : ℕ) × (o ≡ Some r)
      at None h = cc
      at (Some r) h = (r, refl)

  member_none : (f : ℕ) → has m.members.keys f ≡ false → m.members.at f ≡ None
  member_none f h = at (m.members.at f) (sym (has_key_at (λ x. x.face) (λ x. x.region) t.members f) ∙ h)
    where
      at : (o : Option ℕ) → is_some o ≡ false → o ≡ None
      at None h = refl
      at (Some r) h = cc

  members_back : (f : ℕ) → m.members.at f ≡ option_map (λ p. slice_index ids p.region) (find (λ p. p.face == f) (map (member_place m) m.members.keys))
  members_back f =
      elim (cases_Bool (has m.members.keys f)) [
        | inl there ↦
            let r = member_some f there in
            r.1 ∙ ap Some (sym (region_back f r.0 r.1).1) ∙ sym (ap (option_map (λ p. slice_index ids p.region)) (find-face (member_place m) own m.members.keys f there))
        | inr none ↦ member_none f none ∙ sym (ap (option_map (λ p. slice_index ids p.region)) (no-face (member_place m) own m.members.keys f none))
      ]

  pub regions_back : RegionsAreNumbered m (region_bits m) ids
  regions_back = record {
    balanced = balanced_all (region_bits m) (bits_balanced m forest);
    places = bits_long m forest;
    opens = bits_open m forest;
    names = names;
    many = ids_many m forest;
    regions = ids_are m forest;
    parents = parent_back m forest;
  }

  pub members_given_back : AreMembers m ids (member_places m)
  unfolding member_places
  members_given_back = record {
    faces = faces_same (member_place m) own m.members.keys;
    within = λ k p at.
        let x = member-at (member_place m) m.members.keys k p at in
        let r = member_some x.0 x.1 in
        subst (λ (q : MemberPlace). q.region < length ids) (sym x.2) (region_back x.0 r.0 r.1).0;
    regions = members_back;
  }
