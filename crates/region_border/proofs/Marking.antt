-- The marks of a walk round an outline: the numbers of the signed edges that it gave.
use Rattle.std.specs.Prelude.{slice_index, slice_index_or, map, filter, flat_map, not, ◌&&◌, ◌||◌, if◌then◌else◌, take}
use Rattle.std.specs.List.{list_any}
use Rattle.std.proofs.Common.{◌≡◌, ℕ, zero, suc, ◌+◌, ◌*◌, ◌==◌, ◌<◌, ◌≤◌, inl, inr, ℤ, pos, Bool, true, false, List, [], ◌∷◌, ◌++◌, length, refl, sym, ap, ◌∙◌, subst, arith, Option, None}
use Rattle.std.proofs.lemmas.Bool.{and_parts, cases_Bool, cases_eq, eqb-true, ne_eqb, eq-eqb, or_cases, or_left, or_right, both_ways, not-true, false_from_ne_true}
use Rattle.orbits.proofs.Lists.{in_front, from_filter}
use Rattle.orbits.proofs.Numbers.{same_numbers}
use Rattle.orbits.proofs.Carried.{has_carried, named_in}
use Rattle.plane_model.specs.Sets.{has, has_edge}
use Rattle.plane_model.specs.PlaneMap.{PlaneMap, signed_edges}
use Rattle.plane_model.specs.Answers.{has_signed_edge}
use Rattle.plane_model.specs.Orders.{IsAllOf}
use Rattle.plane_model.specs.Border.{is_border, border}
use Rattle.plane_model.proofs.SetLaws.{same_edges}
use Rattle.plane_model.proofs.SortedEdges.{rising_apart}
use Rattle.file_laws.specs.Contents.{Contents}
use Rattle.file_laws.specs.Lawful.{is_whole}
use Rattle.navigate.specs.Bound.{map_with}
use Rattle.region_border.specs.Items.{items_of, edges_in}
use Rattle.region_border.specs.Beginnings.{begins_ring, edges_from}
use Rattle.region_border.specs.Numbered.{signed_number, mark_of, is_fresh_border}
use Rattle.region_border.specs.Standing.{items_left, all_edges, edges_before, IsStanding}
use Rattle.region_border.specs.declared.ring.Ring.{Ring}
use Rattle.region_border.proofs.BorderParts.{all_borders}
use Rattle.region_border.proofs.ItemLaws.{edges_in-items}
use Rattle.region_border.proofs.Outlines.{borders}
use Rattle.region_border.proofs.Resting.{before-between}
use Rattle.region_border.proofs.Scanning.{at, has_at, marked, fresh}
use Rattle.region_border.proofs.MapFacts.{turned, rise, known-listed, mark_low, mark_one}

-- one number more at the end of a list
has-last : (xs : List ℕ) (x j : ℕ) → has (xs ++ x ∷ []) j ≡ (if j == x then true else has xs j)
has-last [] x j = elim (cases_Bool (j == x)) [ inl t ↦ rw t refl | inr f ↦ rw f refl ]
has-last (y ∷ xs) x j = elim (cases_Bool (j == y)) [
  | inl t ↦ elim (cases_Bool (j == x)) [ inl u ↦ rw (t, u) refl | inr g ↦ rw (t, g) refl ]
  | inr f ↦ let more = has-last xs x j in rw f more
]

map-last : (f : ℤ → ℕ) (ds : List ℤ) (d : ℤ) → map f (ds ++ d ∷ []) ≡ map f ds ++ f d ∷ []
map-last f [] d = refl
map-last f (e ∷ ds) d = ap (λ xs. f e ∷ xs) (map-last f ds d)

-- one is marked more
pub mark_more : (f : ℤ → ℕ) (given : List ℤ) (d : ℤ) (number : ℕ) (old new : ℕ → Bool) → number ≡ f d → ((j : ℕ) → new j ≡ (if j == number then true else old j)) → ((j : ℕ) → old j ≡ has (map f given) j) → (j : ℕ) → new j ≡ has (map f (given ++ d ∷ [])) j
mark_more f given d number old new is set held j =
    set j ∙ ap (λ b. if j == number then true else b) (held j) ∙ ap (λ x. if j == x then true else has (map f given) j) is
    ∙ sym (has-last (map f given) (f d) j) ∙ ap (λ xs. has xs j) (sym (map-last f given d))

module _ (c : Contents) (h : is_whole c ≡ true) where
  abbrev m : PlaneMap
  m = map_with c

  abbrev all : List ℤ
  all = signed_edges m

  -- all that a walk gives are the border edges, each once
  pub all_of : (r : ℕ) → IsAllOf (filter (is_border m r) all) (edges_in (items_of (border m r)))
  all_of r = subst (IsAllOf (filter (is_border m r) all)) (sym (edges_in-items (border m r))) (all_borders m r (turned c h) (rising_apart all (rise c h)))

  known_all : (r : ℕ) (d : ℤ) → has_edge (all_edges m r) d ≡ true → has_signed_edge m d ≡ true
  unfolding all_edges
  known_all r d on = known-listed c h d ∙ (from_filter same_edges (is_border m r) all d (sym ((all_of r).same d) ∙ on)).1

  pub known_given : (r seen : ℕ) (ring : Option Ring) → IsStanding m r seen ring → (d : ℤ) → has_edge (edges_before m r (items_left m r seen ring)) d ≡ true → has_signed_edge m d ≡ true
  known_given r seen ring s d on =
      known_all r d (subst (λ ds. has_edge ds d ≡ true) (sym s.whole) (in_front same_edges (edges_before m r (items_left m r seen ring)) (edges_in (items_left m r seen ring)) d on))

  -- a signed edge is marked exactly where it was given
  pub marked_test : (r seen : ℕ) (ring : Option Ring) → IsStanding m r seen ring → (is_marked : ℕ → Bool) → ((j : ℕ) → is_marked j ≡ has (map (mark_of c) (edges_before m r (items_left m r seen ring))) j)
      → (d : ℤ) → has_signed_edge m d ≡ true → is_marked (mark_of c d) ≡ has_edge (edges_before m r (items_left m r seen ring)) d
  marked_test r seen ring s is_marked held d known =
      held (mark_of c d)
      ∙ has_carried same_edges same_numbers (mark_of c) (edges_before m r (items_left m r seen ring)) d (λ y on e. mark_one c h d y known (known_given r seen ring s y on) e)

  known_at : (k : ℕ) → k < length all → has_signed_edge m (at all k) ≡ true
  known_at k l = known-listed c h (at all k) ∙ has_at all k l

  module _ (region seen : ℕ) (s : IsStanding m (slice_index c.regions region) seen None) (is_marked : ℕ → Bool)
      (held : (j : ℕ) → is_marked j ≡ has (map (mark_of c) (edges_before m (slice_index c.regions region) (items_left m (slice_index c.regions region) seen None))) j) where
    abbrev r : ℕ
    r = slice_index c.regions region

    given_test : (k : ℕ) → k < length all → is_marked (mark_of c (at all k)) ≡ has_edge (edges_from m r (take seen all)) (at all k)
    given_test k l = marked_test r seen None s is_marked held (at all k) (known_at k l) ∙ ap (λ ds. has_edge ds (at all k)) (before-between m r seen)

    -- between two rings one that is marked, or no border edge, begins none
    pub begins_none : (k : ℕ) → seen ≤ k → k < length all → is_fresh_border c region is_marked k ≡ false → begins_ring m r (at all k) ≡ false
    unfolding signed_number
    begins_none k under l stale = elim (cases_Bool (is_border m r (at all k))) [
      | inl b ↦ elim (cases_Bool (is_marked (mark_of c (at all k)))) [
        | inl on ↦ marked m r (turned c h) (rise c h) seen k under l (sym (given_test k l) ∙ on)
        | inr off ↦ let wrong : true ≡ false = rw (off, b) at stale in absurd (both_ways true wrong refl)
      ]
      | inr f ↦ rw f refl
    ]

    -- and the first other begins one
    pub begins_one : (k : ℕ) → seen ≤ k → k < length all → is_fresh_border c region is_marked k ≡ true → ((j : ℕ) → seen ≤ j → j < k → is_fresh_border c region is_marked j ≡ false) → begins_ring m r (at all k) ≡ true
    unfolding signed_number
    begins_one k under l new before =
        let parts = and_parts (not (is_marked (mark_of c (at all k)))) (is_border m r (at all k)) new in
        fresh m r (turned c h) (rise c h) seen k under l parts.1 (sym (given_test k l) ∙ not-true _ parts.0) (λ j a b. begins_none j a (omega (arith, b, l)) (before j a b))
