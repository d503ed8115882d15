-- Items of rings, and their signed edges.
use Rattle.std.proofs.Common.{◌≡◌, ℕ, zero, suc, ◌+◌, ◌-◌, ◌<◌, ◌≤◌, ◌==◌, inl, inr, ℤ, Bool, true, false, not, ◌&&◌, ◌||◌, List, [], ◌∷◌, ◌++◌, map, length, refl, sym, ap, ◌∙◌, subst, arith}
use Rattle.std.specs.Prelude.{filter, flat_map, take, drop}
use Rattle.std.proofs.lemmas.List.{take-append-drop, length-append}
use Rattle.std.proofs.lemmas.List.Elements.{filter-append}
use Rattle.std.proofs.lemmas.Grind.{flat_map-append}
use Rattle.std.proofs.Math.Seq.{take-append_seam}
use Rattle.plane_model.specs.PlaneMap.{PlaneMap, signed_edges}
use Rattle.plane_model.specs.Border.{border_ring, border}
use Rattle.region_border.specs.Items.{ring_items, items_of, edges_in}
use Rattle.region_border.specs.Beginnings.{begins_ring, edges_from}
use Rattle.region_border.specs.Standing.{items_from}
use Rattle.region_border.specs.declared.item.BorderItem.{BorderItem}
use Rattle.region_border.specs.declared.item.BorderItem.TheVariants as item
use Rattle.region_border.proofs.BorderParts.{flat-map}

append-assoc : {X : Type 0} (xs ys zs : List X) → (xs ++ ys) ++ zs ≡ xs ++ (ys ++ zs)
append-assoc [] ys zs = refl
append-assoc (x ∷ xs) ys zs = ap (λ ws. x ∷ ws) (append-assoc xs ys zs)

pub append-nil : {X : Type 0} (xs : List X) → xs ++ [] ≡ xs
append-nil [] = refl
append-nil (x ∷ xs) = ap (λ ws. x ∷ ws) (append-nil xs)

-- the signed edges of a ring's items and of what comes behind them
pub edges_in-ring : (ds : List ℤ) (items : List BorderItem) → edges_in (ring_items ds ++ items) ≡ ds ++ edges_in items
unfolding edges_in
edges_in-ring [] items = refl
edges_in-ring (d ∷ ds) items = ap (λ es. d ∷ es) (edges_in-ring ds items)

pub edges_in-items : (rings : List (List ℤ)) → edges_in (items_of rings) ≡ flat_map (λ ds. ds) rings
unfolding edges_in
edges_in-items [] = refl
edges_in-items (ring ∷ rings) = edges_in-ring ring (items_of rings) ∙ ap (λ es. ring ++ es) (edges_in-items rings)

module _ (m : PlaneMap) (r : ℕ) where
  pub edges_in-from : (ds : List ℤ) → edges_in (items_from m r ds) ≡ edges_from m r ds
  edges_in-from ds = edges_in-items (map (border_ring m r) (filter (begins_ring m r) ds)) ∙ flat-map (border_ring m r) (filter (begins_ring m r) ds)

  pub edges_from-append : (ds es : List ℤ) → edges_from m r (ds ++ es) ≡ edges_from m r ds ++ edges_from m r es
  edges_from-append ds es = ap (flat_map (border_ring m r)) (filter-append (begins_ring m r) ds es) ∙ flat_map-append (border_ring m r) (filter (begins_ring m r) ds) (filter (begins_ring m r) es)

  pub edges_from-cut : (k : ℕ) → edges_from m r (signed_edges m) ≡ edges_from m r (take k (signed_edges m)) ++ edges_from m r (drop k (signed_edges m))
  edges_from-cut k = ap (edges_from m r) (sym (take-append-drop k (signed_edges m))) ∙ edges_from-append (take k (signed_edges m)) (drop k (signed_edges m))

-- what stands before the end of a list
pub front-is : (all front back : List ℤ) → all ≡ front ++ back → take (length all - length back) all ≡ front
front-is all front back e =
    let long : length all ≡ length front + length back = ap length e ∙ length-append front back in
    let n : length all - length back ≡ length front = omega (arith, long) in
    ap (λ k. take k all) n ∙ ap (take (length front)) e ∙ take-append_seam front back

pub one_more : (all front back : List ℤ) (d : ℤ) → all ≡ front ++ (d ∷ back) → all ≡ (front ++ d ∷ []) ++ back
one_more all front back d e = e ∙ sym (append-assoc front (d ∷ []) back)
