-- The checks of regions and of members, joined.
use Rattle.std.specs.Prelude.{find, option_map, option_and_then, slice_get, is_none}
use Rattle.std.proofs.Common.{◌≡◌, ℕ, zero, suc, ◌≤◌, Bool, true, false, ◌&&◌, ◌==◌, List, [], ◌∷◌, map, length, refl, ap, sym, ◌∙◌, subst, arith, inl, inr, Option, Some, None}
use Rattle.std.specs.List.{list_all}
use Rattle.std.specs.List.Sorted.{IsNonDecreasing}
use Rattle.std.proofs.lemmas.Bool.{cases_Bool, and_parts, and_from, leb-true}
use Rattle.std.proofs.lemmas.List.{length-map}
use Rattle.topo_base.specs.declared.refusal.Refusal.{Refusal}
use Rattle.topo_base.specs.declared.refusal.Refusal.TheVariants as refusal
use Rattle.plane_model.specs.declared.rows.RegionRow.{RegionRow}
use Rattle.plane_model.specs.declared.rows.MemberRow.{MemberRow}
use Rattle.plane_model.specs.declared.rows.FaceRow.{FaceRow}
use Rattle.plane_model.specs.InRange.{is_in_range, is_id, is_face_id, is_none_or}
use Rattle.plane_model.specs.Sets.{has, rising, is_distinct, or_else}
use Rattle.plane_model.specs.PlaneMap.{PlaneMap, map_of}
use Rattle.plane_model.specs.Rotation.{is_face}
use Rattle.plane_model.specs.Regions.{parent, parents, upward, is_region, is_region_forest}
use Rattle.topo_base.specs.declared.refusal.Table.TheVariants as table
use Rattle.plane_model.specs.Rows.{Rows}
use Rattle.plane_model.specs.Faults.{first_in, id_twice, least_twice, no_parent, no_member_region, no_member_face, region_cycle, region_fault}
use Rattle.plane_model.proofs.FaultParts.{has_key_at, none_is}
use Rattle.plane_model.proofs.AllFaults.{none-region_fault}
use Rattle.region_tree.specs.ByPlace.{AreByPlace}
use Rattle.region_tree.specs.Checked.{nesting_fault, member_fault}
use Rattle.region_tree.specs.Ready.{IsReady}
use Rattle.region_tree.specs.Tables.{region_map, region_tables}
use Rattle.region_tree.proofs.Forests.{region_forest}
use Rattle.region_tree.proofs.SortedRows.{rising_long, rising_sorted}

-- ---- what regions are doesn't rest on other tables
pub upward-same : (m w : PlaneMap) → ((r : ℕ) → parent m r ≡ parent w r) → (n : ℕ) (o : Option ℕ) → upward n m o ≡ upward n w o
unfolding upward
upward-same m w same zero o = refl
upward-same m w same (suc n) None = refl
upward-same m w same (suc n) (Some r) = ap (λ xs. r ∷ xs) (upward-same m w same n (parent m r) ∙ ap (upward n w) (same r))

find-same : (s t : ℕ → Bool) (xs : List ℕ) → ((x : ℕ) → s x ≡ t x) → find s xs ≡ find t xs
find-same s t [] same = refl
find-same s t (x ∷ xs) same =
    let here = same x in
    elim (cases_Bool (t x)) [ inl e ↦ rw (here, e) refl | inr e ↦ rw (here, e) (find-same s t xs same) ]

pub cycle-same : (m w : PlaneMap) → m.regions.keys ≡ w.regions.keys → ((r : ℕ) → parent m r ≡ parent w r) → region_cycle m ≡ region_cycle w
cycle-same m w keys same =
    ap (option_map refusal.RegionCycle)
    (find-same (λ r. has (parents m r) r) (λ r. has (parents w r) r) m.regions.keys (λ r. ap (λ xs. has xs r) (ap (λ k. upward (length k) m (parent m r)) keys ∙ upward-same m w same (length w.regions.keys) (parent m r) ∙ ap (upward (length w.regions.keys) w) (same r)))
    ∙ ap (find (λ r. has (parents w r) r)) keys)

two_parts : (a b c d e f : Option Refusal) → or_else a (or_else b (or_else c (or_else d (or_else e (or_else f None))))) ≡ or_else (or_else a (or_else b (or_else c None))) (or_else d (or_else e (or_else f None)))
two_parts (Some x) b c d e f = refl
two_parts None (Some x) c d e f = refl
two_parts None None (Some x) d e f = refl
two_parts None None None d e f = refl

all-at : {R : Type 0} (p : R → Bool) (xs : List R) (k : ℕ) (x : R) → list_all p xs ≡ true → slice_get xs k ≡ Some x → p x ≡ true
all-at p [] k x h e = cc
all-at p (y ∷ ys) zero x h e = let same : y ≡ x = cc in subst (λ z. p z ≡ true) same (and_parts (p y) (list_all p ys) h).0
all-at p (y ∷ ys) (suc k) x h e = all-at p ys k x (and_parts (p y) (list_all p ys) h).1 e

module _ (regions : List RegionRow) (members : List MemberRow) (faces : List FaceRow) where
  abbrev t : Rows
  t = region_tables regions members faces

  abbrev m : PlaneMap
  m = map_of (region_tables regions members faces)

  nesting-alone : nesting_fault (region_tables regions members faces) ≡ nesting_fault (region_tables regions [] [])
  nesting-alone =
      ap (λ c. or_else (id_twice table.Region (map (λ (r : RegionRow). r.id) regions)) (or_else (first_in (no_parent (map_of (region_tables regions [] []))) regions) (or_else c None)))
      (cycle-same (map_of (region_tables regions members faces)) (map_of (region_tables regions [] [])) refl (λ r. refl))

  -- the first fault is that of the rows of regions, or else that of the rows of members
  pub fault-parts : region_fault (region_tables regions members faces) ≡ or_else (nesting_fault (region_tables regions [] [])) (member_fault (region_tables regions members faces))
  fault-parts =
      two_parts (id_twice table.Region (map (λ (r : RegionRow). r.id) regions)) (first_in (no_parent m) regions) (region_cycle m) (first_in (no_member_region m) members) (first_in (no_member_face m) members)
      (option_map refusal.MemberTwice (least_twice (map (λ (x : MemberRow). x.face) members)))
      ∙ ap (λ o. or_else o (member_fault (region_tables regions members faces))) nesting-alone

  pub range_alone : is_in_range (region_tables regions members faces) ≡ true → is_in_range (region_tables regions [] []) ≡ true
  range_alone h =
      let a = and_parts _ _ h in
      let b = and_parts _ _ a.0 in
      let c = and_parts _ _ b.0 in
      let d = and_parts _ _ c.0 in
      let e = and_parts _ _ d.0 in
      let f = and_parts _ _ e.0 in
      let g = and_parts (list_all (λ (r : FaceRow). is_face_id r.id) faces) (list_all (λ (r : RegionRow). is_id r.id && is_none_or is_id r.parent) regions) f.0 in
      and_from _ true (and_from _ _ (and_from _ true (and_from _ true (and_from _ true (and_from _ true g.1 refl) refl) refl) refl) b.1) refl

  pub few_faces : is_in_range (region_tables regions members faces) ≡ true → length faces ≤ 16777216
  few_faces h =
      let a = and_parts _ _ h in
      let b = and_parts _ _ a.0 in
      leb-true _ _ (and_parts _ _ b.0).1

  pub few_members : is_in_range (region_tables regions members faces) ≡ true → length members ≤ 16777217
  few_members h = leb-true _ _ (and_parts _ _ h).1

  pub few_regions : is_in_range (region_tables regions members faces) ≡ true → length regions ≤ 16777216
  few_regions h =
      let a = and_parts _ _ h in
      leb-true _ _ (and_parts _ _ a.0).1

  -- regions by place, whatever the members and faces
  pub by_place_too : (ids : List ℕ) (parents : List (Option ℕ)) → AreByPlace (region_map regions [] []) ids parents → AreByPlace (region_map regions members faces) ids parents
  by_place_too ids parents are = record { ids_are = are.ids_are; apart = are.apart; many = are.many; places = are.places; parent_is = are.parent_is }

  pub ids_few : is_in_range (region_tables regions members faces) ≡ true → (ids : List ℕ) (parents : List (Option ℕ)) → AreByPlace (region_map regions [] []) ids parents → length ids ≤ 16777216
  ids_few h ids parents are =
      let e = ap length are.ids_are ∙ rising_long (map (λ (r : RegionRow). r.id) regions) ∙ length-map regions (λ (r : RegionRow). r.id) in
      let l = few_regions h in
      omega (arith, e, l)

  pub ids_rise : (ids : List ℕ) (parents : List (Option ℕ)) → AreByPlace (region_map regions [] []) ids parents → IsNonDecreasing ids
  ids_rise ids parents are = subst IsNonDecreasing (sym are.ids_are) (rising_sorted (map (λ (r : RegionRow). r.id) regions))

  pub no_fault : nesting_fault (region_tables regions [] []) ≡ None → member_fault (region_tables regions members faces) ≡ None → region_fault (region_tables regions members faces) ≡ None
  no_fault a b = fault-parts ∙ ap (λ o. or_else o (member_fault (region_tables regions members faces))) a ∙ b

  pub forest_from : region_fault (region_tables regions members faces) ≡ None → is_region_forest (region_tables regions members faces) ≡ true
  forest_from none = sym (none-region_fault (region_tables regions members faces)) ∙ ap is_none none

  -- what has no fault is ready
  pub is_ready : (ids : List ℕ) (parents : List (Option ℕ)) → AreByPlace (region_map regions [] []) ids parents → is_region_forest (region_tables regions members faces) ≡ true → IsReady (region_map regions members faces) ids parents members
  is_ready ids parents are h =
      let forest = region_forest (region_tables regions members faces) h in
      let a = and_parts _ (is_distinct (map (λ (x : MemberRow). x.face) members)) h in
      let b = and_parts _ (list_all (λ (x : MemberRow). is_region m x.region && is_face m x.face) members) a.0 in
      record {
        regions = by_place_too ids parents are;
        inside = forest.inside;
        ends = forest.ends;
        faces = refl;
        faces_apart = a.1;
        at = λ f. refl;
        there = λ k row at.
            let fine = (and_parts (is_region m row.region) (is_face m row.face) (all-at (λ (x : MemberRow). is_region m x.region && is_face m x.face) members k row b.1 at)).0 in
            ap (λ xs. has xs row.region) are.ids_are ∙ has_key_at (λ (r : RegionRow). r.id) (λ (r : RegionRow). r.parent) regions row.region ∙ fine;
      }

-- the tables of nodes and edges make no difference
pub fault-tables : (t : Rows) → region_fault (region_tables t.regions t.members t.faces) ≡ region_fault t
fault-tables t =
    ap (λ c. or_else (id_twice table.Region (map (λ (r : RegionRow). r.id) t.regions)) (or_else (first_in (no_parent (map_of t)) t.regions) (or_else c (or_else (first_in (no_member_region (map_of t)) t.members) (or_else (first_in (no_member_face (map_of t)) t.members)
    (or_else (option_map refusal.MemberTwice (least_twice (map (λ (x : MemberRow). x.face) t.members))) None))))))
    (cycle-same (map_of (region_tables t.regions t.members t.faces)) (map_of t) refl (λ r. refl))

pub forest-tables : (t : Rows) → is_region_forest (region_tables t.regions t.members t.faces) ≡ is_region_forest t
forest-tables t = sym (none-region_fault (region_tables t.regions t.members t.faces)) ∙ ap is_none (fault-tables t) ∙ none-region_fault t
