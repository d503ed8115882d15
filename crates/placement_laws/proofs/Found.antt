-- What a placing gives: outer rings and shells are found, each one.
use Rattle.std.proofs.Common.{◌≡◌, ℕ, ◌⊎◌, inl, inr, ℤ, true, false, not, ◌&&◌, ◌==◌, List, map, length, refl, sym, ◌∙◌, subst, arith, eq-eqb, Some, None}
use Rattle.std.specs.Prelude.{slice_get}
use Rattle.std.proofs.lemmas.Bool.{eqb-true, and_parts, and_from, cases_Bool, both_ways, not-true, false_from_ne_true}
use Rattle.orbits.proofs.Lists.{in_map, pigeon, image_back}
use Rattle.orbits.proofs.Carried.{names_distinct}
use Rattle.plane_model.proofs.SetLaws.{same_edges}
use Rattle.plane_model.specs.Sets.{has, has_edge}
use Rattle.plane_model.specs.PlaneMap.{PlaneMap, side, rings, signed_edges}
use Rattle.plane_model.specs.Component.{component, components}
use Rattle.plane_model.specs.Faces.{outer_rings, is_outer, outer_ring}
use Rattle.plane_model.specs.Lists.{shell}
use Rattle.placement_laws.specs.Placing.{IsPlacing, LiesInEarlier}
use Rattle.placement_laws.proofs.Parts.{HasParts, component_self, component_sub, component_sym, component_name, component_name-in, component_name-there, components-one, components-signed, components-apart, rings-signed}
use Rattle.placement_laws.proofs.Lists.{find_one, find_none, place_has, length-map_edges}

-- two starts whose components share a signed edge are one
pub start_one : (m : PlaneMap) → HasParts m → (starts : List ℤ) → IsPlacing m starts → (d r q : ℤ) → has_edge starts r ≡ true → has_edge (component m r) d ≡ true → has_edge starts q ≡ true → has_edge (component m q) d ≡ true → q ≡ r
start_one m g starts p d r q h on k onq =
    let hr = rings-signed m r (p.among r h) in
    let hq = rings-signed m q (p.among q k) in
    p.one q r k h (component_sub m g q d r hq onq (component_sym m g r d hr on))

outer_ring_is : (m : PlaneMap) → HasParts m → IsPlacing m (outer_rings m) → (d r : ℤ) → has_edge (outer_rings m) r ≡ true → has_edge (component m r) d ≡ true → outer_ring m d ≡ Some r
outer_ring_is m g p d r h on = find_one (λ x. has_edge (component m x) d) (outer_rings m) r h on (λ q k onq. start_one m g (outer_rings m) p d r q h on k onq)

pub outer_found : (m : PlaneMap) → HasParts m → IsPlacing m (outer_rings m) → (d : ℤ) → has_edge (signed_edges m) d ≡ true
    → (r : ℤ) × (outer_ring m d ≡ Some r) × (is_outer m r ≡ true) × (has_edge (rings m) r ≡ true) × (has_edge (component m r) d ≡ true)
outer_found m g p d h = let r = p.each d h in (r.0, outer_ring_is m g p d r.0 r.1 r.2, r.1, p.among r.0 r.1, r.2)

pub outer_ring_same : (m : PlaneMap) → HasParts m → IsPlacing m (outer_rings m) → (d e : ℤ) → has_edge (signed_edges m) d ≡ true → has_edge (component m d) e ≡ true → outer_ring m e ≡ outer_ring m d
outer_ring_same m g p d e h k =
    let r = p.each d h in
    let hr = rings-signed m r.0 (p.among r.0 r.1) in
    outer_ring_is m g p e r.0 r.1 (component_sub m g r.0 d e hr r.2 k) ∙ sym (outer_ring_is m g p d r.0 r.1 r.2)

shell_is : (m : PlaneMap) → IsPlacing m (outer_rings m) → (f : ℕ) (q : ℤ) → has_edge (rings m) q ≡ true → is_outer m q ≡ false → side m q ≡ f → shell m f ≡ Some q
shell_is m p f q h out e = find_one (λ r. (side m r == f) && not (is_outer m r)) (rings m) q h
    (and_from (side m q == f) (not (is_outer m q)) (eq-eqb (side m q) f e) (rw out refl))
    (λ r k passed. let parts = and_parts (side m r == f) (not (is_outer m r)) passed in
    p.one_shell r q k (not-true _ parts.1) h out (eqb-true (side m r) f parts.0 ∙ sym e))

pub shell_found : (m : PlaneMap) → IsPlacing m (outer_rings m) → (f : ℕ) → has m.faces f ≡ true → (q : ℤ) × (shell m f ≡ Some q) × (is_outer m q ≡ false) × (has_edge (rings m) q ≡ true) × (side m q ≡ f)
shell_found m p f h = let q = p.shells f h in (q.0, shell_is m p f q.0 q.1 q.2 q.3, q.2, q.1, q.3)

pub shell_none : (m : PlaneMap) → IsPlacing m (outer_rings m) → (f : ℕ) → has m.faces f ≡ false → shell m f ≡ None
shell_none m p f none = find_none (λ r. (side m r == f) && not (is_outer m r)) (rings m) (λ q h. false_from_ne_true _ (λ passed.
    let parts = and_parts (side m q == f) (not (is_outer m q)) passed in
    both_ways (has m.faces f) none (subst (λ x. has m.faces x ≡ true) (eqb-true (side m q) f parts.0) (p.faced q h (not-true _ parts.1)))))

pub either_found : (m : PlaneMap) → HasParts m → IsPlacing m (outer_rings m) → (r : ℤ) → has_edge (rings m) r ≡ true
    → ((is_outer m r ≡ true) × (outer_ring m r ≡ Some r)) ⊎ ((is_outer m r ≡ false) × (shell m (side m r) ≡ Some r) × (has m.faces (side m r) ≡ true))
either_found m g p r h = elim (cases_Bool (is_outer m r)) [
  | inl on ↦ inl (on, outer_ring_is m g p r r on (component_self m r (rings-signed m r h)))
  | inr out ↦ inr (out, shell_is m p (side m r) r h out refl, p.faced r h out)
]

pub earlier_outer : (m : PlaneMap) → HasParts m → IsPlacing m (outer_rings m) → (place : ℕ) (r : ℤ) → slice_get (outer_rings m) place ≡ Some r → (side m r ≡ 0) ⊎ LiesInEarlier m place (side m r)
earlier_outer m g p place r h = elim (p.order place r h) [
  | inl z ↦ inl z
  | inr s ↦ inr (record {
    ring = s.shell;
    its_shell = shell_is m p (side m r) s.shell s.is_ring s.no_start s.its_face;
    start = s.start;
    its_start = outer_ring_is m g p s.shell s.start (place_has (outer_rings m) s.earlier s.start s.its_start) s.within;
    earlier = s.earlier;
    its_place = s.its_start;
    is_earlier = s.is_earlier;
  })
]

-- there are as many starts as components: each names one
pub placing-many : (m : PlaneMap) → HasParts m → (starts : List ℤ) → IsPlacing m starts → length starts ≡ length (components m)
placing-many m g starts p =
    let names = map (component_name m) starts in
    let signed : (r : ℤ) → has_edge starts r ≡ true → has_edge (signed_edges m) r ≡ true = λ r h. rings-signed m r (p.among r h) in
    let a = pigeon same_edges names (components m)
    (names_distinct same_edges same_edges (component_name m) starts p.apart (λ r q h k same.
    start_one m g starts p (component_name m r) q r k (subst (λ z. has_edge (component m q) z ≡ true) (sym same) (component_name-in m q (signed q k))) h (component_name-in m r (signed r h))))
    (λ c h. let r = image_back same_edges (component_name m) starts c h in subst (λ z. has_edge (components m) z ≡ true) (sym r.2) (component_name-there m g r.0 (signed r.0 r.1))) in
    let b = pigeon same_edges (components m) names (components-apart m g) (λ c h.
    let r = p.each c (components-signed m c h) in
    let hr = signed r.0 r.1 in
    let name = component_name m r.0 in
    let is : name ≡ c = components-one m g name c (component_name-there m g r.0 hr) h (component_sub m g name r.0 c (components-signed m name (component_name-there m g r.0 hr)) (component_sym m g r.0 name hr (component_name-in m r.0 hr)) r.2) in
    subst (λ z. has_edge names z ≡ true) is (in_map same_edges (component_name m) starts r.0 r.1)) in
    let long = length-map_edges (component_name m) starts in
    omega arith
