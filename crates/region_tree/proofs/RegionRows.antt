-- Rows of regions that were checked.
use Rattle.std.specs.Prelude.{find, slice_get, slice_index, option_map, option_and_then, is_some, is_none, IsTrue}
use Rattle.std.proofs.Common.{◌≡◌, ℕ, ◌+◌, ◌<◌, ◌≤◌, inl, inr, Bool, true, false, ◌&&◌, ◌==◌, List, [], ◌∷◌, map, length, get_or, refl, ap, sym, ◌∙◌, subst, arith, Option, Some, None}
use Rattle.std.specs.List.{list_all, range_with_len}
use Rattle.std.specs.List.Sorted.{IsPermutation, IsNonDecreasing, IsNonDecreasingBy}
use Rattle.std.proofs.lemmas.Bool.{cases_lt, and_parts, both_ways, leb-true}
use Rattle.std.proofs.lemmas.List.{length-map, get_or-map, get_or_past}
use Rattle.std.proofs.lemmas.Option.{slice_get-get_or}
use Rattle.topo_base.specs.declared.refusal.Refusal.{Refusal}
use Rattle.topo_base.specs.declared.refusal.Refusal.TheVariants as refusal
use Rattle.topo_base.specs.declared.refusal.Table.TheVariants as table
use Rattle.plane_model.specs.declared.rows.RegionRow.{RegionRow}
use Rattle.plane_model.specs.InRange.{is_in_range}
use Rattle.plane_model.specs.Rows.{Rows}
use Rattle.plane_model.specs.Sets.{has, rising, is_distinct, or_else}
use Rattle.plane_model.specs.PlaneMap.{PlaneMap, map_of}
use Rattle.plane_model.specs.Regions.{parent, is_region}
use Rattle.plane_model.specs.Orders.{first_pair}
use Rattle.plane_model.specs.Faults.{first_in, unless, id_twice, least_twice, no_parent, region_cycle}
use Rattle.plane_model.proofs.Pairs.{twice_in_sorted}
use Rattle.plane_model.proofs.FaultParts.{none-id_twice}
use Rattle.bit_words.proofs.Finds.{least-find}
use Rattle.rotation_check.specs.Checked.{Names}
use Rattle.rotation_check.specs.declared.checking.CheckFault.{CheckFault}
use Rattle.rotation_check.specs.declared.checking.CheckFault.TheVariants as fault
use Rattle.region_tree.specs.Ancestors.{parent_at, comes_back}
use Rattle.region_tree.specs.ByPlace.{AreByPlace}
use Rattle.region_tree.specs.Checked.{missing_parent, nesting_fault}
use Rattle.region_tree.specs.Places.{IsParentPlace, AreParentPlaces}
use Rattle.region_tree.specs.Tables.{region_map, region_tables}
use Rattle.std.proofs.lemmas.List.Sorted.{IsPermutation-map}
use Rattle.region_tree.proofs.SortedRows.{rising_apart, sorted_long, keys_rise, keys_are, in_rows, value_found}
use Rattle.region_tree.proofs.RowFaults.{none_in, parents-fault, region-has}
use Rattle.region_tree.proofs.PlacesOf.{cycle-place}

abbrev row_id : RegionRow → ℕ
row_id r = r.id

abbrev no_row : RegionRow
no_row = record { id = 0; parent = None }

pub few_rows : (regions : List RegionRow) → is_in_range (region_tables regions [] []) ≡ true → length regions ≤ 16777216
few_rows regions h = leb-true _ _ (and_parts _ _ (and_parts _ _ h).0).1

-- rows sorted by id, and their ids
pub record SortedIds (regions rows : List RegionRow) (ids : List ℕ) : Type 0 where
  pub same : IsPermutation regions rows
  pub up : IsNonDecreasingBy row_id rows
  pub ids_are : ids ≡ map row_id rows

module _ (regions rows : List RegionRow) (ids : List ℕ) (s : SortedIds regions rows ids) where
  abbrev t : Rows
  t = region_tables regions [] []

  abbrev m : PlaneMap
  m = region_map regions [] []

  pub ids_long : length ids ≡ length regions
  ids_long = ap length s.ids_are ∙ length-map rows row_id ∙ sorted_long row_id regions rows s.same s.up

  pub ids_few : length regions ≤ 16777216 → length ids ≤ 16777216
  ids_few l = let e = ids_long in omega (arith, e)

  pub ids_rise : IsNonDecreasing ids
  ids_rise = subst IsNonDecreasing (sym s.ids_are) (keys_rise row_id regions rows s.same s.up no_row)

  pub ids_keys : ids ≡ m.regions.keys
  ids_keys = s.ids_are ∙ keys_are row_id regions rows s.same s.up no_row

  -- the least id that stands twice
  pub twice-fault : option_map (refusal.IdTwice table.Region) (first_pair ids) ≡ id_twice table.Region (map row_id regions)
  twice-fault = ap (option_map (refusal.IdTwice table.Region)) (sym (twice_in_sorted (map row_id regions) ids (subst (IsPermutation (map row_id regions)) (sym s.ids_are) (IsPermutation-map row_id regions rows s.same)) ids_rise))

  -- what is found wrong by ids that are read
  pub twice-read : (read : List ℕ) (o : Option Refusal) → read ≡ ids → o ≡ option_map (refusal.IdTwice table.Region) (first_pair read) → o ≡ id_twice table.Region (map row_id regions)
  twice-read read o e is = is ∙ ap (λ xs. option_map (refusal.IdTwice table.Region) (first_pair xs)) e ∙ twice-fault

  pub missing-read : (read : List ℕ) (o : Option Refusal) → read ≡ ids → o ≡ first_in (missing_parent read) regions → o ≡ first_in (no_parent m) regions
  missing-read read o e is = is ∙ ap (λ xs. first_in (missing_parent xs) regions) e ∙ parents-fault t ids ids_keys regions

  module _ (once : id_twice table.Region (map row_id regions) ≡ None) where
    apart : is_distinct (map row_id regions) ≡ true
    apart = sym (none-id_twice table.Region (map row_id regions)) ∙ ap is_none once

    pub ids_apart : is_distinct ids ≡ true
    ids_apart = subst (λ xs. is_distinct xs ≡ true) (sym ids_keys) (rising_apart (map row_id regions) apart)

    row_at : (k : ℕ) → k < length ids → (row : RegionRow) × (slice_get rows k ≡ Some row) × (slice_index ids k ≡ row.id)
    row_at k l =
        let long = ap length s.ids_are ∙ length-map rows row_id in (
          get_or rows k no_row,
          slice_get-get_or rows k no_row (omega (arith, long)),
          ap (λ xs. slice_index xs k) s.ids_are ∙ get_or-map row_id rows k no_row 0 (omega (arith, long)),
        )

    module _ (parents : List (Option ℕ)) (places : AreParentPlaces ids rows parents) (there : first_in (no_parent m) regions ≡ None) where
      is_there : (ids : List ℕ) (row : RegionRow) (p : ℕ) → row.parent ≡ Some p → missing_parent ids row ≡ None → has ids p ≡ true
      is_there ids row p e h = at (has ids p) (subst (λ o. option_and_then (λ q. unless (has ids q) (refusal.NoRegion table.Region row.id q)) o ≡ None) e h)
        where
          at : (b : Bool) → unless b (refusal.NoRegion table.Region row.id p) ≡ None → b ≡ true
          at true h = refl
          at false h = cc

      place_is : (k : ℕ) (row : RegionRow) → slice_get rows k ≡ Some row → (wanted place : Option ℕ) → row.parent ≡ wanted → IsParentPlace ids wanted place → (wanted ≡ option_map (slice_index ids) place) × ((p : ℕ) → place ≡ Some p → p < length ids)
      place_is k row at None place e h = (sym (ap (option_map (slice_index ids)) h), λ p is. let none = h in absurd (cc))
      place_is k row at (Some p) None e h =
          let j = in_rows row_id regions rows s.same s.up k row at in
          let fine = none_in (missing_parent ids) regions (parents-fault t ids ids_keys regions ∙ there) j.0 row j.1 in
          absurd (both_ways _ h (is_there ids row p e fine))
      place_is k row at (Some p) (Some q) e h = (ap Some (sym h.1), λ x is. let same : q ≡ x = cc in omega (arith, h.0, same))

      pub by_place : AreByPlace m ids parents
      by_place =
          let long = ap length s.ids_are ∙ length-map rows row_id in
          let many = places.many in
          record {
            ids_are = ids_keys;
            apart = ids_apart;
            many = many ∙ sym long;
            places = λ k p h. elim (cases_lt k (length ids)) [
              | inl l ↦
                  let r = row_at k l in
                  let is = place_is k r.0 r.1 r.0.parent (parent_at parents k) refl (places.at k r.0 (omega (arith, l, long)) r.1) in
                  let w = is.1 p h in
                  omega (arith, w, many, long)
              | inr g ↦ let past = get_or_past parents k None (omega (arith, g, many, long)) in absurd (cc)
            ];
            parent_is = λ k l.
                let r = row_at k l in
                let is = place_is k r.0 r.1 r.0.parent (parent_at parents k) refl (places.at k r.0 (omega (arith, l, long)) r.1) in
                let found = value_found row_id regions rows s.same s.up (λ x. x.parent) apart k r.0 r.1 in
                ap (parent m) r.2 ∙ ap (option_and_then (λ p. p)) found ∙ is.0;
          }

-- the fault of three parts that is first
pub first_three : (a b c : Option Refusal) (e : Refusal) → a ≡ Some e → or_else a (or_else b (or_else c None)) ≡ Some e
first_three a b c e h = ap (λ o. or_else o (or_else b (or_else c None))) h

pub second_three : (a b c : Option Refusal) → a ≡ None → or_else a (or_else b (or_else c None)) ≡ or_else b (or_else c None)
second_three a b c h = ap (λ o. or_else o (or_else b (or_else c None))) h

pub third_three : (a b c : Option Refusal) → a ≡ None → b ≡ None → or_else a (or_else b (or_else c None)) ≡ or_else c None
third_three a b c h k = second_three a b c h ∙ ap (λ o. or_else o (or_else c None)) k

pub last_one : (c : Option Refusal) → or_else c None ≡ c
last_one None = refl
last_one (Some e) = refl

-- the region of the least place that comes back
pub cycle-read : (m : PlaneMap) (ids : List ℕ) (parents : List (Option ℕ)) → AreByPlace m ids parents → (read : List (Option ℕ)) (o : Option ℕ) → read ≡ parents
    → o ≡ find (comes_back (parent_at read) (length read)) (range_with_len 0 (length read)) → region_cycle m ≡ option_map (λ k. refusal.RegionCycle (slice_index ids k)) o
cycle-read m ids parents are read o e is =
    cycle-place m ids parents are ∙ ap (option_map (λ k. refusal.RegionCycle (slice_index ids k))) (sym (is ∙ ap (λ xs. find (comes_back (parent_at xs) (length xs)) (range_with_len 0 (length xs))) e))

pub cycle-within : (m : PlaneMap) (ids : List ℕ) (parents : List (Option ℕ)) → AreByPlace m ids parents → (read : List (Option ℕ)) (o : Option ℕ) (k : ℕ) → read ≡ parents
    → o ≡ find (comes_back (parent_at read) (length read)) (range_with_len 0 (length read)) → o ≡ Some k → k < length ids
cycle-within m ids parents are read o k e is some =
    let l = least-find (comes_back (parent_at read) (length read)) 0 (length read) k (sym is ∙ some) in
    let many = are.many in
    let long = ap length e in
    omega (arith, l.within, many, long)

-- what names the first of some faults
pub names_first : (e : CheckFault) (a rest : Option Refusal) → Names e a → Names e (or_else a rest)
names_first (fault.Refused r) a rest h = ap (λ o. or_else o rest) h
names_first fault.Memory a rest h = tt
