-- A walk round an outline that stands between two rings goes on to the next beginning, or to the end.
use Rattle.std.specs.Prelude.{slice_index, map}
use Rattle.std.proofs.Common.{◌≡◌, ℕ, ◌+◌, ◌*◌, ◌<◌, ◌≤◌, ℤ, Bool, true, false, List, [], length, sym, ap, ◌∙◌, subst, arith, Option, Some, None}
use Rattle.plane_model.specs.Sets.{has}
use Rattle.plane_model.specs.PlaneMap.{PlaneMap, signed_edges}
use Rattle.plane_model.specs.Answers.{has_signed_edge}
use Rattle.file_laws.specs.Contents.{Contents}
use Rattle.file_laws.specs.Lawful.{is_whole}
use Rattle.navigate.specs.Bound.{map_with}
use Rattle.region_border.specs.Numbered.{signed_number, mark_of, is_fresh_border}
use Rattle.region_border.specs.Rings.{ring_whole}
use Rattle.region_border.specs.Standing.{items_left, edges_before, IsStanding}
use Rattle.region_border.specs.declared.ring.Ring.{Ring}
use Rattle.region_border.proofs.MapFacts.{many}
use Rattle.region_border.proofs.Marking.{begins_none, begins_one}
use Rattle.region_border.proofs.Resting.{none-left, none-behind, begun-ring, stands_on, between}

module _ (c : Contents) (h : is_whole c ≡ true) (region seen : ℕ) (ring : Option Ring) (none : ring ≡ None) (s : IsStanding (map_with c) (slice_index c.regions region) seen ring) (is_marked : ℕ → Bool)
    (held : (j : ℕ) → is_marked j ≡ has (map (mark_of c) (edges_before (map_with c) (slice_index c.regions region) (items_left (map_with c) (slice_index c.regions region) seen ring))) j) where
  abbrev m : PlaneMap
  m = map_with c

  abbrev r : ℕ
  r = slice_index c.regions region

  held_between : (j : ℕ) → is_marked j ≡ has (map (mark_of c) (edges_before m r (items_left m r seen None))) j
  held_between j = held j ∙ ap (λ (q : Option Ring). has (map (mark_of c) (edges_before m r (items_left m r seen q))) j) none

  -- the next ring
  pub settled : (k n : ℕ) (d : ℤ) (q : Ring) → q ≡ ring_whole d n → seen ≤ k → k < 2 * length c.edges → n ≡ 2 * length c.edges → d ≡ signed_number c k → is_fresh_border c region is_marked k ≡ true
      → ((j : ℕ) → seen ≤ j → j < k → is_fresh_border c region is_marked j ≡ false) → items_left m r (k + 1) (Some q) ≡ items_left m r seen ring
  unfolding signed_number
  settled k n d q whole under l all is fresh before =
      let long = many c h in
      let within : k < length (signed_edges m) = omega (arith, l, long) in
      ap (λ (x : Ring). items_left m r (k + 1) (Some x)) whole
      ∙ begun-ring m r seen k n d under within (omega (arith, all, long)) is
      (begins_one c h region seen (between m r seen) is_marked held_between k under within fresh before)
      (λ j a b. begins_none c h region seen (between m r seen) is_marked held_between j a (omega (arith, b, within)) (before j a b))
      ∙ ap (λ (q : Option Ring). items_left m r seen q) (sym none)

  -- none is left
  pub over : seen ≤ 2 * length c.edges → ((k : ℕ) → seen ≤ k → k < 2 * length c.edges → is_fresh_border c region is_marked k ≡ false) → items_left m r seen ring ≡ []
  over l none_fresh =
      let long = many c h in
      ap (λ (q : Option Ring). items_left m r seen q) none
      ∙ none-left m r seen (omega (arith, l, long)) (λ j a b. begins_none c h region seen (between m r seen) is_marked held_between j a b (none_fresh j a (omega (arith, b, long))))

  pub over-behind : (n : ℕ) → n ≡ 2 * length c.edges → items_left m r n None ≡ []
  over-behind n e = let long = many c h in ap (λ k. items_left m r k None) (omega (arith, e, long)) ∙ none-behind m r
