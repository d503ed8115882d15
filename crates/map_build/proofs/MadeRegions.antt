-- The regions of consistent tables by number, and two maps that have the same ones.
use Rattle.std.specs.Prelude.{map, find, slice_get, slice_index, is_some, nat_le, option_map, option_and_then, unwrap_or, if◌then◌else◌}
use Rattle.std.specs.List.{list_all}
use Rattle.std.proofs.Common.{◌≡◌, ℕ, zero, suc, ◌+◌, ◌-◌, ◌<◌, ◌≤◌, inl, inr, Bool, true, false, ◌&&◌, ◌==◌, List, [], ◌∷◌, length, refl, ap, sym, ◌∙◌, arith, subst, Option, Some, None}
use Rattle.std.proofs.lemmas.Bool.{cases_Bool, and_parts, eqb-true, eq-eqb, ne_eqb, leb-true, or_left, or_right, both_ways}
use Rattle.topo_base.specs.declared.refusal.Table.TheVariants as table
use Rattle.plane_model.specs.Reading.{most_rows}
use Rattle.plane_model.specs.declared.rows.RegionRow.{RegionRow}
use Rattle.plane_model.specs.declared.rows.MemberRow.{MemberRow}
use Rattle.plane_model.specs.Rows.{Rows}
use Rattle.plane_model.specs.Sets.{has, is_distinct}
use Rattle.plane_model.specs.PlaneMap.{PlaneMap, map_of}
use Rattle.plane_model.specs.Rotation.{is_face}
use Rattle.plane_model.specs.Regions.{parent, is_region, is_region_forest}
use Rattle.plane_model.proofs.FaultParts.{has_key_at}
use Rattle.plane_model.proofs.Sorting.{rising-has, rising_strictly, strictly_rising_of}
use Rattle.id_names.proofs.NumberLaws.{number_of-at}
use Rattle.region_tree.specs.Nesting.{region_at}
use Rattle.region_tree.specs.Numbering.{AreMembers, RegionsAreNumbered}
use Rattle.region_tree.specs.Parts.{member_places, region_bits, region_ids}
use Rattle.region_tree.specs.declared.parts.MemberPlace.{MemberPlace}
use Rattle.region_tree.proofs.GivenBack.{found-passes, members_given_back, regions_back}
use Rattle.file_laws.proofs.Lists.{index-has, length-rising, rising_apart}
use Rattle.map_build.specs.Made.{member_number, region_number}
use Rattle.map_build.specs.Placed.{member_region}
use Rattle.map_build.proofs.Facts.{AreGood}
use Rattle.map_build.proofs.Flats.{length-map}
use Rattle.map_build.proofs.Maps.{same_finite}
use Rattle.map_build.proofs.Shells.{number_there}

-- ids of regions and faces of members are distinct in a forest
pub regions_distinct : (t : Rows) → is_region_forest t ≡ true → is_distinct (map (λ (r : RegionRow). r.id) t.regions) ≡ true
regions_distinct t h =
    let a = and_parts _ _ h in
    let b = and_parts _ _ a.0 in
    let c = and_parts _ _ b.0 in
    (and_parts (is_distinct (map (λ (r : RegionRow). r.id) t.regions)) _ c.0).0

pub members_distinct : (t : Rows) → is_region_forest t ≡ true → is_distinct (map (λ (x : MemberRow). x.face) t.members) ≡ true
members_distinct t h = (and_parts _ (is_distinct (map (λ (x : MemberRow). x.face) t.members)) h).1

-- what is found passes
found_test : {R : Type 0} (test : R → Bool) (xs : List R) (x : R) → find test xs ≡ Some x → test x ≡ true
found_test test [] x e = cc
found_test test (y ∷ ys) x e =
    elim (cases_Bool (test y)) [
      | inl is ↦ let same : ◌≡◌ {A = Option _} (Some y) (Some x) = rw is at e in let s : y ≡ x = cc in subst (λ z. test z ≡ true) s is
      | inr other ↦ found_test test ys x (rw other at e)
    ]

-- a member's region and face are there
pub member_there : (t : Rows) → is_region_forest t ≡ true → (f r : ℕ) → (map_of t).members.at f ≡ Some r → (is_region (map_of t) r ≡ true) × (is_face (map_of t) f ≡ true)
member_there t h f r e = there (find (λ x. x.face == f) t.members) refl e
  where
    fine : list_all (λ (x : MemberRow). is_region (map_of t) x.region && is_face (map_of t) x.face) t.members ≡ true
    fine = (and_parts _ (list_all (λ (x : MemberRow). is_region (map_of t) x.region && is_face (map_of t) x.face) t.members) (and_parts _ (is_distinct (map (λ (x : MemberRow). x.face) t.members)) h).0).1

    there : (o : Option MemberRow) → find (λ x. x.face == f) t.members ≡ o → option_map (λ (x : MemberRow). x.region) o ≡ Some r → (is_region (map_of t) r ≡ true) × (is_face (map_of t) f ≡ true)
    there None found e = cc
    there (Some x) found e =
        let region : x.region ≡ r = cc in
        let face : x.face ≡ f = eqb-true x.face f (found_test (λ (x : MemberRow). x.face == f) t.members x found) in
        let parts = and_parts (is_region (map_of t) x.region) (is_face (map_of t) x.face) (found-passes (λ (x : MemberRow). is_region (map_of t) x.region && is_face (map_of t) x.face) (λ (x : MemberRow). x.face == f) t.members x fine found) in
        (subst (λ z. is_region (map_of t) z ≡ true) region parts.0, subst (λ z. is_face (map_of t) z ≡ true) face parts.1)

none_when : {X : Type 0} (o : Option X) → ((x : X) → o ≡ Some x → ⊥) → o ≡ None
none_when None h = refl
none_when (Some x) h = absurd (h x refl)

none_is : {X : Type 0} (o : Option X) → is_some o ≡ false → o ≡ None
none_is None h = refl
none_is (Some x) h = cc

some_is : {X : Type 0} (o : Option X) → is_some o ≡ true → (x : X) × (o ≡ Some x)
some_is None h = cc
some_is (Some x) h = (x, refl)

-- a face that is not there is no member
pub no_member : (t : Rows) → is_region_forest t ≡ true → (f : ℕ) → is_face (map_of t) f ≡ false → (map_of t).members.at f ≡ None
no_member t h f none = none_when ((map_of t).members.at f) (λ r e. both_ways _ none (member_there t h f r e).1)

-- the region of a number
region_back : (ids : List ℕ) (o : Option ℕ) → ((r : ℕ) → o ≡ Some r → has ids r ≡ true) → (x : ℕ) → x ≡ region_number ids o → option_map (slice_index ids) (if x == 0 then None else Some (x - 1)) ≡ o
region_back ids None there x e = rw e refl
region_back ids (Some r) there x e =
    let k = number_there ids r (there r refl) in
    let is : x ≡ k.0 + 1 = e ∙ ap (λ o. unwrap_or o 0 + 1) k.1 in
    let back : k.0 + 1 - 1 ≡ k.0 = omega arith in
    rw is (rw (ne_eqb (k.0 + 1) 0 (λ z. omega (arith, z))) (ap Some (ap (slice_index ids) back ∙ k.3)))

region_below : (ids : List ℕ) (o : Option ℕ) → ((r : ℕ) → o ≡ Some r → has ids r ≡ true) → region_number ids o ≤ length ids
region_below ids None there = omega arith
region_below ids (Some r) there =
    let k = number_there ids r (there r refl) in
    let is : region_number ids (Some r) ≡ k.0 + 1 = ap (λ o. unwrap_or o 0 + 1) k.1 in
    omega (arith, is, k.2)

found_at : {R : Type 0} (test : R → Bool) (xs : List R) (x : R) → find test xs ≡ Some x → (k : ℕ) × (slice_get xs k ≡ Some x)
found_at test [] x e = cc
found_at test (y ∷ ys) x e =
    elim (cases_Bool (test y)) [
      | inl is ↦ (0, rw is at e)
      | inr other ↦ let more = found_at test ys x (rw other at e) in (suc more.0, more.1)
    ]

module _ (t : Rows) (g : AreGood t) where
  abbrev m : PlaneMap
  m = map_of t

  abbrev ids : List ℕ
  ids = region_ids (map_of t)

  pub numbered : RegionsAreNumbered m (region_bits m) ids
  numbered = regions_back t g.in_range g.regions

  pub members : AreMembers m ids (member_places m)
  members = members_given_back t g.in_range g.regions

  pub few_regions : length ids ≤ 16777216
  few_regions =
      let a = and_parts _ (nat_le (length t.members) (most_rows table.Member)) g.in_range in
      let few = leb-true _ _ (and_parts _ (nat_le (length t.regions) (most_rows table.Region)) a.0).1 in
      let many = numbered.many in
      let keys = length-rising (map (λ (r : RegionRow). r.id) t.regions) in
      let rows = length-map (λ (r : RegionRow). r.id) t.regions in
      omega (arith, few, many, keys, rows)

  region_in : (f r : ℕ) → m.members.at f ≡ Some r → has ids r ≡ true
  region_in f r e = numbered.regions r ∙ has_key_at (λ (r : RegionRow). r.id) (λ (r : RegionRow). r.parent) t.regions r ∙ (member_there t g.regions f r e).0

  pub number_below : (f : ℕ) → member_number m f ≤ length ids
  number_below f = region_below ids (m.members.at f) (region_in f)

  -- the number of a face's region gives the region back
  pub number_back : (numbers : List ℕ) (place f : ℕ) → slice_index numbers place ≡ member_number m f → option_map (slice_index ids) (region_at numbers place) ≡ m.members.at f
  unfolding region_at
  number_back numbers place f e = region_back ids (m.members.at f) (region_in f) (slice_index numbers place) e

  -- and is that of its member
  pub member_face : (k : ℕ) (p : MemberPlace) → slice_get (member_places m) k ≡ Some p → is_face m p.face ≡ true
  member_face k p e =
      let listed = keyed (member_places m) k p e in
      let key : has m.members.keys p.face ≡ true = ap (λ xs. has xs p.face) (sym members.faces) ∙ listed in
      let r = some_is (m.members.at p.face) (sym (has_key_at (λ (x : MemberRow). x.face) (λ (x : MemberRow). x.region) t.members p.face) ∙ key) in
      (member_there t g.regions p.face r.0 r.1).1
    where
      keyed : (ps : List MemberPlace) (k : ℕ) (p : MemberPlace) → slice_get ps k ≡ Some p → has (map (λ (p : MemberPlace). p.face) ps) p.face ≡ true
      keyed [] k p e = cc
      keyed (q ∷ ps) zero p e = let same : q ≡ p = cc in subst (λ z. has (map (λ (p : MemberPlace). p.face) (q ∷ ps)) z.face ≡ true) same (or_left _ _ (eq-eqb q.face q.face refl))
      keyed (q ∷ ps) (suc k) p e = or_right _ _ (keyed ps k p e)

  pub member_few : (k : ℕ) (p : MemberPlace) → slice_get (member_places m) k ≡ Some p → p.region < 16777216
  member_few k p e = let l = members.within k p e in let few = few_regions in omega (arith, l, few)

  pub members_apart : is_distinct (map (λ (p : MemberPlace). p.face) (member_places m)) ≡ true
  members_apart = ap is_distinct members.faces ∙ rising_apart (map (λ (x : MemberRow). x.face) t.members) (members_distinct t g.regions)

  pub member_is : (f : ℕ) → member_region (member_places m) f ≡ member_number m f
  member_is f = of (find (λ p. p.face == f) (member_places m)) refl
    where
      of : (o : Option MemberPlace) → find (λ p. p.face == f) (member_places m) ≡ o → unwrap_or (option_map (λ (p : MemberPlace). p.region + 1) (find (λ p. p.face == f) (member_places m))) 0 ≡ member_number m f
      of None e =
          let at = members.regions f ∙ ap (option_map (λ (p : MemberPlace). slice_index ids p.region)) e in
          ap (λ o. unwrap_or (option_map (λ (p : MemberPlace). p.region + 1) o) 0) e ∙ sym (ap (region_number ids) at)
      of (Some p) e =
          let at = members.regions f ∙ ap (option_map (λ (p : MemberPlace). slice_index ids p.region)) e in
          let k = found_at (λ (p : MemberPlace). p.face == f) (member_places m) p e in
          let number = number_of-at ids p.region (slice_index ids p.region) numbered.names.distinct (members.within k.0 p k.1) refl in
          ap (λ o. unwrap_or (option_map (λ (p : MemberPlace). p.region + 1) o) 0) e ∙ sym (ap (region_number ids) at ∙ ap (λ o. unwrap_or o 0 + 1) number)

-- two maps with the same regions by number
module _ (t u : Rows) (h : is_region_forest t ≡ true) (k : is_region_forest u ≡ true) (bits : List Bool) (ids : List ℕ) (a : RegionsAreNumbered (map_of t) bits ids) (b : RegionsAreNumbered (map_of u) bits ids) where
  region_key : (t : Rows) → RegionsAreNumbered (map_of t) bits ids → (r : ℕ) → is_some ((map_of t).regions.at r) ≡ has ids r
  region_key t a r = sym (has_key_at (λ (r : RegionRow). r.id) (λ (r : RegionRow). r.parent) t.regions r) ∙ sym (a.regions r)

  region_keys : (map_of t).regions.keys ≡ (map_of u).regions.keys
  region_keys =
      let old = map (λ (r : RegionRow). r.id) u.regions in
      strictly_rising_of old (map_of t).regions.keys (regions_distinct u k) (rising_strictly (map (λ (r : RegionRow). r.id) t.regions) (regions_distinct t h)) (λ r. sym (a.regions r) ∙ b.regions r ∙ rising-has old r)

  parent_some : (o : Option (Option ℕ)) → is_some o ≡ true → o ≡ Some (option_and_then (λ p. p) o)
  parent_some None h = cc
  parent_some (Some None) h = refl
  parent_some (Some (Some p)) h = refl

  region_same : (r : ℕ) → (map_of t).regions.at r ≡ (map_of u).regions.at r
  region_same r =
      elim (cases_Bool (has ids r)) [
        | inr other ↦ none_is ((map_of t).regions.at r) (region_key t a r ∙ other) ∙ sym (none_is ((map_of u).regions.at r) (region_key u b r ∙ other))
        | inl there ↦
            let x = index-has ids r there in
            let same : parent (map_of t) r ≡ parent (map_of u) r = subst (λ y. parent (map_of t) y ≡ parent (map_of u) y) x.2 (a.parents x.0 x.1 ∙ sym (b.parents x.0 x.1)) in
            parent_some ((map_of t).regions.at r) (region_key t a r ∙ there) ∙ ap Some same ∙ sym (parent_some ((map_of u).regions.at r) (region_key u b r ∙ there))
      ]

  pub regions_same : (map_of t).regions ≡ (map_of u).regions
  regions_same = same_finite (map_of t).regions (map_of u).regions region_keys region_same

-- and with the same member at each face
pub members_same : (t u : Rows) → is_region_forest t ≡ true → is_region_forest u ≡ true → ((f : ℕ) → (map_of t).members.at f ≡ (map_of u).members.at f) → (map_of t).members ≡ (map_of u).members
members_same t u h k same =
    let old = map (λ (x : MemberRow). x.face) u.members in
    let key = λ (t : Rows) (f : ℕ). has_key_at (λ (x : MemberRow). x.face) (λ (x : MemberRow). x.region) t.members f in
    let keys : (map_of t).members.keys ≡ (map_of u).members.keys = strictly_rising_of old (map_of t).members.keys (members_distinct u k) (rising_strictly (map (λ (x : MemberRow). x.face) t.members) (members_distinct t h)) (λ f. key t f ∙ ap (λ (o : Option ℕ). is_some o) (same f) ∙ sym (key u f) ∙ rising-has old f) in
    same_finite (map_of t).members (map_of u).members keys same
