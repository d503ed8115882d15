-- A walk round an outline gives the next item of the ring where it stands.
use Rattle.std.specs.Prelude.{slice_index, map, if◌then◌else◌}
use Rattle.std.proofs.Common.{◌≡◌, ℕ, ◌+◌, ◌-◌, ◌*◌, ◌==◌, ◌<◌, ◌≤◌, ℤ, Bool, true, List, [], ◌∷◌, ◌++◌, length, sym, ap, ◌∙◌, subst, Option, Some, None}
use Rattle.plane_model.specs.Sets.{has}
use Rattle.plane_model.specs.PlaneMap.{PlaneMap}
use Rattle.plane_model.specs.Answers.{has_signed_edge}
use Rattle.plane_model.specs.Border.{outline}
use Rattle.file_laws.specs.Contents.{Contents}
use Rattle.navigate.specs.Bound.{map_with}
use Rattle.region_border.specs.Items.{edges_in}
use Rattle.region_border.specs.Looked.{looked}
use Rattle.region_border.specs.Numbered.{mark_of}
use Rattle.region_border.specs.Prices.{mark_price, look_price, walk_price}
use Rattle.region_border.specs.Rings.{ring_from}
use Rattle.region_border.specs.Standing.{items_left, edges_before, IsStanding}
use Rattle.region_border.specs.declared.item.BorderItem.TheVariants as item
use Rattle.region_border.specs.declared.ring.Ring.{Ring}
use Rattle.region_border.proofs.Resting.{ended-items, ended-given, next-items, next-given, next_stands}
use Rattle.region_border.proofs.Marking.{mark_more}
use Rattle.region_border.proofs.Paying.{edge_paid, end_paid}

module _ (c : Contents) (r seen : ℕ) (ring : Option Ring) (q : Ring) (on : ring ≡ Some q) (s : IsStanding (map_with c) r seen ring) where
  abbrev m : PlaneMap
  m = map_with c

  abbrev gave : Option Ring → List ℤ
  gave o = edges_before m r (items_left m r seen o)

  stands : IsStanding m r seen (Some q)
  stands = subst (λ (o : Option Ring). IsStanding m r seen o) on s

  -- the end of a ring
  pub end_next : q.left ≡ 0 → items_left m r seen ring ≡ item.RingEnd ∷ items_left m r seen None
  end_next e = ap (λ (o : Option Ring). items_left m r seen o) on ∙ ended-items m r seen q e

  pub end_given : q.left ≡ 0 → edges_before m r (items_left m r seen None) ≡ edges_before m r (items_left m r seen ring)
  end_given e = ended-given m r seen q e ∙ ap gave (sym on)

  pub end_marks : q.left ≡ 0 → (is_marked : ℕ → Bool) → ((j : ℕ) → is_marked j ≡ has (map (mark_of c) (edges_before m r (items_left m r seen ring))) j)
      → (j : ℕ) → is_marked j ≡ has (map (mark_of c) (edges_before m r (items_left m r seen None))) j
  end_marks e is_marked held j = held j ∙ ap (λ (ds : List ℤ). has (map (mark_of c) ds) j) (sym (end_given e))

  pub ended_paid : q.left ≡ 0 → (now : ℕ) → now + walk_price c r seen (items_left m r seen None) ≤ now + walk_price c r seen (items_left m r seen ring)
  unfolding edges_in
  ended_paid e now = end_paid c r seen now (items_left m r seen ring) (items_left m r seen None) (ap edges_in (end_next e))

  -- the next signed edge of one
  module _ (next : ℤ) (after : Ring) (more : 0 < q.left) (is : next ≡ outline m r q.at) (from : after ≡ ring_from q.first next (q.left - 1)) where
    pub edge_next : items_left m r seen ring ≡ item.Edge q.at ∷ items_left m r seen (Some after)
    edge_next = ap (λ (o : Option Ring). items_left m r seen o) on ∙ next-items m r seen q next more is ∙ ap (λ (x : Ring). item.Edge q.at ∷ items_left m r seen (Some x)) (sym from)

    pub edge_given : edges_before m r (items_left m r seen (Some after)) ≡ edges_before m r (items_left m r seen ring) ++ q.at ∷ []
    edge_given = ap (λ (x : Ring). gave (Some x)) from ∙ next-given m r seen q next more is stands ∙ ap (λ (o : Option Ring). gave o ++ q.at ∷ []) (sym on)

    pub edge_stands : has_signed_edge m next ≡ true → IsStanding m r seen (Some after)
    edge_stands known = subst (λ (x : Ring). IsStanding m r seen (Some x)) (sym from) (next_stands m r seen q next more is known stands)

    pub edge_marks : (number : ℕ) (old new : ℕ → Bool) → number ≡ mark_of c q.at → ((j : ℕ) → new j ≡ (if j == number then true else old j)) → ((j : ℕ) → old j ≡ has (map (mark_of c) (edges_before m r (items_left m r seen ring))) j)
        → (j : ℕ) → new j ≡ has (map (mark_of c) (edges_before m r (items_left m r seen (Some after)))) j
    edge_marks number old new number_is set held j = mark_more (mark_of c) (gave ring) q.at number old new number_is set held j ∙ ap (λ (ds : List ℤ). has (map (mark_of c) ds) j) (sym edge_given)

    pub given_paid : (first second last : ℕ) → second ≤ first + mark_price c → last ≤ second + look_price c * length (looked m r q.at)
        → last + walk_price c r seen (items_left m r seen (Some after)) ≤ first + walk_price c r seen (items_left m r seen ring)
    unfolding edges_in
    given_paid first second last one two = edge_paid c r seen first second last (items_left m r seen ring) (items_left m r seen (Some after)) q.at (ap edges_in edge_next) one two
