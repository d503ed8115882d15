-- What the numbers of the outer rings say of the map.
use Rattle.std.proofs.Common.{◌≡◌, ℕ, ◌<◌, inl, inr, ℤ, Bool, true, false, ◌==◌, List, [], ◌∷◌, map, length, refl, sym, ◌∙◌, subst, arith, eq-eqb}
use Rattle.std.specs.Prelude.{slice_index}
use Rattle.std.specs.List.{list_any}
use Rattle.std.proofs.lemmas.Bool.{eqb-true, or_cases, or_left, or_right, both_ways}
use Rattle.orbits.proofs.Lists.{same_tests, any_from}
use Rattle.plane_model.proofs.SetLaws.{same_edges}
use Rattle.plane_model.specs.Sets.{has, has_edge}
use Rattle.plane_model.specs.PlaneMap.{PlaneMap, signed_edges}
use Rattle.plane_model.specs.Component.{component}
use Rattle.plane_model.specs.Faces.{is_reached, outer_rings}
use Rattle.placement_laws.proofs.Parts.{HasParts, component_sub, component_sym, rings-signed}
use Rattle.islands.specs.Numbered.{AreRingNumbers, ring_at}
use Rattle.islands.proofs.Members.{named, to_name, ring_in, any_edge}

some_has : (p : ℕ → Bool) (xs : List ℕ) → list_any p xs ≡ true → (x : ℕ) × (has xs x ≡ true) × (p x ≡ true)
some_has p [] h = absurd (both_ways false refl h)
some_has p (x ∷ xs) h = elim (or_cases (p x) (list_any p xs) h) [
  | inl is ↦ (x, or_left (x == x) _ (eq-eqb x x refl), is)
  | inr more ↦ let y = some_has p xs more in (y.0, or_right (y.0 == x) _ y.1, y.2)
]

has_some : (p : ℕ → Bool) (xs : List ℕ) (x : ℕ) → has xs x ≡ true → p x ≡ true → list_any p xs ≡ true
has_some p [] x h k = cc
has_some p (y ∷ xs) x h k = elim (or_cases (x == y) (has xs x) h) [
  | inl is ↦ or_left (p y) _ (subst (λ z. p z ≡ true) (eqb-true x y is) k)
  | inr more ↦ or_right (p y) _ (has_some p xs x more k)
]

pub reached_of_starts : (m : PlaneMap) → HasParts m → (id : ℕ → ℕ) (faces components : List ℕ) (count : ℕ) → AreRingNumbers m id faces components count → (starts : List ℕ) → ((s : ℕ) → has starts s ≡ true → s < length faces) → map (ring_at m) starts ≡ outer_rings m
    → (i : ℕ) (d : ℤ) → i < length faces → has_edge (component m (ring_at m i)) d ≡ true → is_reached m d ≡ list_any (λ s. slice_index components s == slice_index components i) starts
reached_of_starts m g id faces components count n starts below e i d lt on =
    let many = n.faces_many in
    let signed : (j : ℕ) → j < length faces → has_edge (signed_edges m) (ring_at m j) ≡ true = λ j h. rings-signed m (ring_at m j) (ring_in m j (omega arith)) in
    same_tests (is_reached m d) (list_any (λ s. slice_index components s == slice_index components i) starts)
    (λ h.
    let r = any_edge (λ r. has_edge (component m r) d) (outer_rings m) h in
    let s = named (ring_at m) starts r.0 (subst (λ rs. has_edge rs r.0 ≡ true) (sym e) r.1) in
    let here : has_edge (component m (ring_at m s.0)) d ≡ true = subst (λ z. has_edge (component m z) d ≡ true) (sym s.2) r.2 in
    let s_below = below s.0 s.1 in
    let both : has_edge (component m (ring_at m s.0)) (ring_at m i) ≡ true = component_sub m g (ring_at m s.0) d (ring_at m i) (signed s.0 s_below) here (component_sym m g (ring_at m i) d (signed i lt) on) in
    has_some (λ x. slice_index components x == slice_index components i) starts s.0 s.1 (sym (n.together s.0 i s_below lt) ∙ both))
    (λ h.
    let s = some_has (λ x. slice_index components x == slice_index components i) starts h in
    let s_below = below s.0 s.1 in
    let both : has_edge (component m (ring_at m s.0)) (ring_at m i) ≡ true = n.together s.0 i s_below lt ∙ s.2 in
    any_from same_edges (λ r. has_edge (component m r) d) (outer_rings m) (ring_at m s.0) (subst (λ rs. has_edge rs (ring_at m s.0) ≡ true) e (to_name (ring_at m) starts s.0 s.1)) (component_sub m g (ring_at m s.0) (ring_at m i) d (signed s.0 s_below) both on))
