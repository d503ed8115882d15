-- A walk round an outline as it goes on: what it gave and what it still gives, between two rings and on one.
use Rattle.std.proofs.Common.{◌≡◌, ℕ, zero, suc, ◌+◌, ◌-◌, ◌<◌, ◌≤◌, inl, inr, ℤ, pos, Bool, true, false, List, [], ◌∷◌, ◌++◌, map, length, refl, sym, ap, ◌∙◌, subst, arith, Option, Some, None}
use Rattle.std.specs.Prelude.{filter, take, drop, is_some, if◌then◌else◌}
use Rattle.std.proofs.lemmas.Bool.{cases_Bool, both_ways}
use Rattle.std.proofs.Math.Seq.{drop-length}
use Rattle.orbits.specs.Walks as walks
use Rattle.topo_base.specs.SignedEdge.{same_edge}
use Rattle.plane_model.specs.PlaneMap.{PlaneMap, signed_edges, until_return}
use Rattle.plane_model.specs.Border.{outline, border_ring, border}
use Rattle.plane_model.specs.Answers.{has_signed_edge}
use Rattle.region_border.specs.Items.{ring_items, items_of, edges_in}
use Rattle.region_border.specs.Beginnings.{begins_ring, edges_from}
use Rattle.region_border.specs.Rings.{ring_left, ring_after}
use Rattle.region_border.specs.Standing.{items_from, items_left, all_edges, edges_before, IsOnMap, IsStanding}
use Rattle.region_border.specs.declared.item.BorderItem.{BorderItem}
use Rattle.region_border.specs.declared.item.BorderItem.TheVariants as item
use Rattle.region_border.specs.declared.ring.Ring.{Ring}
use Rattle.region_border.proofs.ItemLaws.{append-nil, edges_in-ring, edges_in-from, edges_from-cut, front-is, one_more}
use Rattle.region_border.proofs.Scanning.{at, skipped, taken}

-- the next signed edge of a ring, where there is one
abbrev at_or : Option Ring → ℤ
at_or None = pos 0
at_or (Some q) = q.at

module _ (m : PlaneMap) (r : ℕ) where
  abbrev all : List ℤ
  all = signed_edges m

  all-are : all_edges m r ≡ edges_from m r all
  unfolding all_edges
  all-are = edges_in-from m r all

  -- where all is what it gave and what is left, the one is the list before the other
  standing : (items : List BorderItem) (front : List ℤ) → all_edges m r ≡ front ++ edges_in items → edges_before m r items ≡ front
  unfolding edges_before
  standing items front e = front-is (all_edges m r) front (edges_in items) e

  left-between : (seen : ℕ) → edges_in (items_left m r seen None) ≡ edges_from m r (drop seen all)
  unfolding items_left
  left-between seen = edges_in-from m r (drop seen all)

  cut_between : (seen : ℕ) → all_edges m r ≡ edges_from m r (take seen all) ++ edges_in (items_left m r seen None)
  cut_between seen = all-are ∙ edges_from-cut m r seen ∙ ap (λ es. edges_from m r (take seen all) ++ es) (sym (left-between seen))

  -- between two rings it gave those that begin before
  pub before-between : (seen : ℕ) → edges_before m r (items_left m r seen None) ≡ edges_from m r (take seen all)
  before-between seen = standing (items_left m r seen None) (edges_from m r (take seen all)) (cut_between seen)

  pub between : (seen : ℕ) → IsStanding m r seen None
  between seen = record { on_map = λ q e. absurd (both_ways false refl (ap is_some e)); whole = cut_between seen ∙ ap (λ es. es ++ edges_in (items_left m r seen None)) (sym (before-between seen)) }

  -- at its beginning
  pub begun-items : items_left m r 0 None ≡ items_of (border m r)
  unfolding items_left
  begun-items = refl

  pub begun-given : edges_before m r (items_left m r 0 None) ≡ []
  begun-given = before-between 0

  -- no ring begins from some place on
  pub none-left : (seen : ℕ) → seen ≤ length all → ((j : ℕ) → seen ≤ j → j < length all → begins_ring m r (at all j) ≡ false) → items_left m r seen None ≡ []
  unfolding items_left
  none-left seen l fails =
      let n = length all - seen in
      let end : seen + n ≡ length all = omega (arith, l) in
      let skip = skipped (begins_ring m r) all n seen (omega (arith, l)) (λ j a b. fails j a (omega (arith, b, end))) in
      let over : drop (seen + n) all ≡ [] = ap (λ x. drop x all) end ∙ drop-length all in
      ap (λ ds. items_of (map (border_ring m r) ds)) (skip ∙ ap (filter (begins_ring m r)) over)

  pub none-behind : items_left m r (length all) None ≡ []
  unfolding items_left
  none-behind = ap (items_from m r) (drop-length all)

  -- the next ring begins at some place
  pub begun-ring : (seen k n : ℕ) (d : ℤ) → seen ≤ k → k < length all → n ≡ length all → d ≡ at all k → begins_ring m r (at all k) ≡ true → ((j : ℕ) → seen ≤ j → j < k → begins_ring m r (at all j) ≡ false)
      → items_left m r (k + 1) (Some (record { first = d; at = d; left = n })) ≡ items_left m r seen None
  unfolding items_left
  begun-ring seen k n d under l many is b fails =
      let gap = k - seen in
      let end : seen + gap ≡ k = omega (arith, under) in
      let skip = skipped (begins_ring m r) all gap seen (omega (arith, under, l)) (λ j a e. fails j a (omega (arith, e, end))) in
      let found = skip ∙ ap (λ x. filter (begins_ring m r) (drop x all)) end ∙ taken (begins_ring m r) all k l b in
      let rings = sym (ap (λ ds. items_of (map (border_ring m r) ds)) found) in
      ap (λ x. ring_items (until_return n (outline m r) x x) ++ items_from m r (drop (k + 1) all)) is
      ∙ ap (λ x. ring_items (until_return x (outline m r) (at all k) (at all k)) ++ items_from m r (drop (k + 1) all)) many
      ∙ rings

  -- what was said of what is left holds of the same items
  pub stands_on : (seen seen' : ℕ) (ring ring' : Option Ring) → items_left m r seen' ring' ≡ items_left m r seen ring → IsOnMap m ring' → IsStanding m r seen ring → IsStanding m r seen' ring'
  stands_on seen seen' ring ring' same on s =
      record { on_map = on; whole = subst (λ items. all_edges m r ≡ edges_before m r items ++ edges_in items) (sym same) s.whole }

  -- a ring ends
  pub ended-items : (seen : ℕ) (ring : Ring) → ring.left ≡ 0 → items_left m r seen (Some ring) ≡ item.RingEnd ∷ items_left m r seen None
  unfolding items_left walks.until_return
  ended-items seen ring e = ap (λ n. ring_items (until_return n (outline m r) ring.first ring.at) ++ items_from m r (drop seen all)) e

  pub ended-given : (seen : ℕ) (ring : Ring) → ring.left ≡ 0 → edges_before m r (items_left m r seen None) ≡ edges_before m r (items_left m r seen (Some ring))
  unfolding edges_before edges_in
  ended-given seen ring e = ap (λ items. take (length (all_edges m r) - length (edges_in items)) (all_edges m r)) (sym (ended-items seen ring e))

  -- a ring goes on
  goes-on : (n : ℕ) (first d next : ℤ) → next ≡ outline m r d → until_return (suc n) (outline m r) first d ≡ d ∷ until_return (if same_edge next first then 0 else n) (outline m r) first next
  unfolding walks.until_return
  goes-on n first d next e = elim (cases_Bool (same_edge next first)) [
    | inl t ↦ let t' : same_edge (outline m r d) first ≡ true = subst (λ x. same_edge x first ≡ true) e t in rw (t, t') refl
    | inr f ↦ let f' : same_edge (outline m r d) first ≡ false = subst (λ x. same_edge x first ≡ false) e f in rw (f, f') (ap (λ x. d ∷ until_return n (outline m r) first x) (sym e))
  ]

  pub next-items : (seen : ℕ) (ring : Ring) (next : ℤ) → 0 < ring.left → next ≡ outline m r ring.at → items_left m r seen (Some ring) ≡ item.Edge ring.at ∷ items_left m r seen (Some (ring_after ring next))
  unfolding items_left
  next-items seen ring next l e =
      let n = ring.left - 1 in
      let fuel : ring.left ≡ suc n = omega (arith, l) in
      ap (λ k. ring_items (until_return k (outline m r) ring.first ring.at) ++ items_from m r (drop seen all)) fuel
      ∙ ap (λ ds. ring_items ds ++ items_from m r (drop seen all)) (goes-on n ring.first ring.at next e)

  pub next-edges : (seen : ℕ) (ring : Ring) (next : ℤ) → 0 < ring.left → next ≡ outline m r ring.at → edges_in (items_left m r seen (Some ring)) ≡ ring.at ∷ edges_in (items_left m r seen (Some (ring_after ring next)))
  unfolding edges_in
  next-edges seen ring next l e = ap edges_in (next-items seen ring next l e)

  pub next-given : (seen : ℕ) (ring : Ring) (next : ℤ) → 0 < ring.left → next ≡ outline m r ring.at → IsStanding m r seen (Some ring)
      → edges_before m r (items_left m r seen (Some (ring_after ring next))) ≡ edges_before m r (items_left m r seen (Some ring)) ++ ring.at ∷ []
  next-given seen ring next l e s =
      let after = items_left m r seen (Some (ring_after ring next)) in
      let front = edges_before m r (items_left m r seen (Some ring)) in
      standing after (front ++ ring.at ∷ []) (one_more (all_edges m r) front (edges_in after) ring.at (s.whole ∙ ap (λ es. front ++ es) (next-edges seen ring next l e)))

  pub next_stands : (seen : ℕ) (ring : Ring) (next : ℤ) → 0 < ring.left → next ≡ outline m r ring.at → has_signed_edge m next ≡ true → IsStanding m r seen (Some ring) → IsStanding m r seen (Some (ring_after ring next))
  next_stands seen ring next l e known s =
      let after = items_left m r seen (Some (ring_after ring next)) in
      let front = edges_before m r (items_left m r seen (Some ring)) in
      let whole = one_more (all_edges m r) front (edges_in after) ring.at (s.whole ∙ ap (λ es. front ++ es) (next-edges seen ring next l e)) in
      record { on_map = λ q e. subst (λ x. has_signed_edge m x ≡ true) (ap at_or e) known; whole = whole ∙ ap (λ es. es ++ edges_in after) (sym (next-given seen ring next l e s)) }
