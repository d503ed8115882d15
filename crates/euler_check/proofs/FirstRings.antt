-- Sets of parts, numbered by the first dart of each.
use Rattle.std.proofs.Common.{◌≡◌, ℕ, ◌*◌, ◌<◌, ◌≤◌, inl, inr, ℤ, true, List, length, get_or, map, refl, sym, ap, ◌∙◌, subst, arith}
use Rattle.std.specs.Prelude.{◌↔◌, slice_index}
use Rattle.std.proofs.lemmas.Bool.{cases_eq, cases_lt}
use Rattle.std.proofs.lemmas.List.{length-map, get_or-map}
use Rattle.disjoint_sets.specs.Sets.{AreSets, SetNumbers, numbered}
use Rattle.disjoint_sets.proofs.SetLaws.{same_number, number_below, number_reached, number_rises}
use Rattle.plane_model.specs.declared.rows.EdgeRow.{EdgeRow}
use Rattle.plane_model.specs.Sets.{has_edge}
use Rattle.plane_model.specs.PlaneMap.{ring}
use Rattle.plane_model.specs.Component.{component}
use Rattle.rotation_check.specs.Darts.{RotationRows, map_of_rotation, signed_edge}
use Rattle.euler_check.specs.Joined.{AreJoined}
use Rattle.euler_check.specs.Numbers.{Numbers, IsFirstDart, ArePartNumbers}

-- numbers of sets: each set has one, in the order of their least members
record AreSetNumbers (leasts : List ℕ) (count : ℕ) (of_members : List ℕ) : Type 0 where
  same : (a b : ℕ) → a < length leasts → b < length leasts → (get_or of_members a 0 ≡ get_or of_members b 0) ↔ (get_or leasts a 0 ≡ get_or leasts b 0)
  below : (a : ℕ) → a < length leasts → get_or of_members a 0 < count
  least : (k : ℕ) → k < count → (i : ℕ) × (i < length leasts) × (get_or leasts i 0 ≡ i) × (get_or of_members i 0 ≡ k)
  in_order : (i j : ℕ) → i < length leasts → j < length leasts → get_or leasts i 0 ≡ i → get_or leasts j 0 ≡ j → i < j → get_or of_members i 0 < get_or of_members j 0

set_numbers : (leasts : List ℕ) → AreSets leasts → AreSetNumbers leasts (numbered leasts).count (numbered leasts).of_members
set_numbers leasts sets = record {
  same = λ a b h q. same_number leasts a b sets h q;
  below = λ a h. number_below leasts a sets h;
  least = λ k lt. number_reached leasts k lt;
  in_order = λ i j h q least_i least_j lt. number_rises leasts i j q least_i least_j lt;
}

one_first : (of_darts : List ℕ) (k d e : ℕ) → IsFirstDart of_darts k d → IsFirstDart of_darts k e → d ≡ e
one_first of_darts k d e first_d first_e = elim (cases_lt d e) [
  | inl lt ↦ absurd (first_e.none_before d lt first_d.has)
  | inr ge ↦ elim (cases_lt e d) [ inl lt ↦ absurd (first_d.none_before e lt first_e.has) | inr le ↦ omega arith ]
]

module _ (edges : List EdgeRow) (part whole : ℤ → List ℤ) (parts : Numbers) (are : ArePartNumbers edges part parts) (leasts of_members : List ℕ) (count : ℕ) (sets : AreSets leasts) (size : length leasts ≡ parts.count)
    (numbers : AreSetNumbers leasts count of_members) where
  of_darts : List ℕ
  of_darts = map (λ k. get_or of_members k 0) parts.of_darts

  within : (d : ℕ) → d < 2 * length edges → get_or parts.of_darts d 0 < length leasts
  within d h = let a = are.below d h in omega arith

  size_is : length of_darts ≡ 2 * length edges
  unfolding of_darts
  size_is = length-map parts.of_darts (λ k. get_or of_members k 0) ∙ are.size

  value : (d : ℕ) → d < 2 * length edges → get_or of_darts d 0 ≡ get_or of_members (get_or parts.of_darts d 0) 0
  unfolding of_darts
  value d h = let s = are.size in get_or-map (λ k. get_or of_members k 0) parts.of_darts d 0 0 (omega arith)

  -- the first dart of a set's least part is the first of the set
  first_of_set : (i d : ℕ) → i < length leasts → get_or leasts i 0 ≡ i → IsFirstDart parts.of_darts i d → IsFirstDart of_darts (get_or of_members i 0) d
  first_of_set i d h least first =
      let s = are.size in
      let z = size_is in
      let q : d < 2 * length edges = (let a = first.within in omega arith) in
      record {
        within = omega arith;
        has = value d q ∙ ap (λ k. get_or of_members k 0) first.has;
        none_before = λ e lt has.
            let l : e < 2 * length edges = omega arith in
            let j = get_or parts.of_darts e 0 in
            let one : get_or leasts j 0 ≡ get_or leasts i 0 = (numbers.same j i (within e l) h).0 (sym (value e l) ∙ has) in
            let low : get_or leasts j 0 ≤ j = sets.below j (within e l) in
            elim (cases_eq i j) [
              | inl same ↦ first.none_before e lt (sym same)
              | inr ne ↦
                  let g = are.first j (are.below e l) in
                  let order : d < g.0 = are.in_order i j d g.0 (omega arith) first g.1 in
                  absurd (g.1.none_before e (omega arith) refl)
            ];
      }

  whole_numbers : ((d e : ℕ) → d < 2 * length edges → e < 2 * length edges → (get_or leasts (get_or parts.of_darts d 0) 0 ≡ get_or leasts (get_or parts.of_darts e 0) 0) ↔ (has_edge (whole (signed_edge edges d)) (signed_edge edges e) ≡ true))
      → ArePartNumbers edges whole (record { count = count; of_darts = map (λ k. get_or of_members k 0) parts.of_darts })
  unfolding of_darts
  whole_numbers same = record {
    size = size_is;
    below = λ d h. subst (λ k. k < count) (sym (value d h)) (numbers.below (get_or parts.of_darts d 0) (within d h));
    same = λ d e h q.
        let one = numbers.same (get_or parts.of_darts d 0) (get_or parts.of_darts e 0) (within d h) (within e q) in (
          λ is. (same d e h q).0 (one.0 (sym (value d h) ∙ is ∙ value e q)),
          λ on. value d h ∙ one.1 ((same d e h q).1 on) ∙ sym (value e q),
        );
    first = λ k lt.
        let i = numbers.least k lt in
        let i1 : i.0 < length leasts = i.1 in
        let d = are.first i.0 (omega arith) in
        (d.0, subst (λ x. IsFirstDart of_darts x d.0) i.3 (first_of_set i.0 d.0 i.1 i.2 d.1));
    in_order = λ j k d e lt first_d first_e.
        let z = size_is in
        let h : d < 2 * length edges = (let a = first_d.within in omega arith) in
        let q : e < 2 * length edges = (let a = first_e.within in omega arith) in
        let a = numbers.least j (subst (λ x. x < count) (sym (value d h) ∙ first_d.has) (numbers.below (get_or parts.of_darts d 0) (within d h))) in
        let b = numbers.least k (subst (λ x. x < count) (sym (value e q) ∙ first_e.has) (numbers.below (get_or parts.of_darts e 0) (within e q))) in
        let a1 : a.0 < length leasts = a.1 in
        let b1 : b.0 < length leasts = b.1 in
        let a3 : get_or of_members a.0 0 ≡ j = a.3 in
        let b3 : get_or of_members b.0 0 ≡ k = b.3 in
        let first_a = are.first a.0 (omega arith) in
        let first_b = are.first b.0 (omega arith) in
        let d_is : d ≡ first_a.0 = one_first of_darts j d first_a.0 first_d (subst (λ x. IsFirstDart of_darts x first_a.0) a.3 (first_of_set a.0 first_a.0 a.1 a.2 first_a.1)) in
        let e_is : e ≡ first_b.0 = one_first of_darts k e first_b.0 first_e (subst (λ x. IsFirstDart of_darts x first_b.0) b.3 (first_of_set b.0 first_b.0 b.1 b.2 first_b.1)) in
        let order : a.0 < b.0 = elim (cases_lt a.0 b.0) [
          | inl low ↦ low
          | inr ge ↦ elim (cases_eq a.0 b.0) [
            | inl one ↦ let both : get_or of_members a.0 0 ≡ get_or of_members b.0 0 = ap (λ x. get_or of_members x 0) one in absurd (omega arith)
            | inr ne ↦ let back = numbers.in_order b.0 a.0 b.1 a.1 b.2 a.2 (omega arith) in absurd (omega arith)
          ]
        ] in
        let rising : first_a.0 < first_b.0 = are.in_order a.0 b.0 first_a.0 first_b.0 order first_a.1 first_b.1 in
        omega arith;
  }

-- the numbers of the sets of rings, given to darts, number the components
pub components_numbered : (r : RotationRows) (rings : Numbers) (leasts : List ℕ) (sets : SetNumbers) (n : Numbers) → ArePartNumbers r.edges (ring (map_of_rotation r)) rings → AreJoined r rings leasts → sets ≡ numbered leasts
    → n.count ≡ sets.count → n.of_darts ≡ map (slice_index sets.of_members) rings.of_darts → ArePartNumbers r.edges (component (map_of_rotation r)) n
components_numbered r rings leasts sets n are joined sets_are count_is of_darts_is =
    let numbers : AreSetNumbers leasts sets.count sets.of_members = subst (λ s. AreSetNumbers leasts s.count s.of_members) (sym sets_are) (set_numbers leasts joined.sets) in
    subst (λ k. ArePartNumbers r.edges (component (map_of_rotation r)) (record { count = k; of_darts = n.of_darts })) (sym count_is)
    (subst (λ v. ArePartNumbers r.edges (component (map_of_rotation r)) (record { count = sets.count; of_darts = v })) (sym of_darts_is)
    (whole_numbers r.edges (ring (map_of_rotation r)) (component (map_of_rotation r)) rings are leasts sets.of_members sets.count joined.sets joined.size numbers joined.same))
