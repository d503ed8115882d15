-- What rings and components of a labelled rotation are: each signed edge has one of each, named by its smallest.
use Rattle.std.proofs.Common.{◌≡◌, inl, inr, ℤ, true, List, refl, sym, ap, ◌∙◌, subst, arith}
use Rattle.std.proofs.lemmas.Bool.{or_cases, or_left, or_right}
use Rattle.topo_base.specs.SignedEdge.{same_edge}
use Rattle.orbits.proofs.Lists.{from_filter, same_tests, apart_kept}
use Rattle.plane_model.specs.Rows.{Rows}
use Rattle.plane_model.specs.Sets.{has_edge, is_distinct_edges}
use Rattle.plane_model.specs.PlaneMap.{PlaneMap, map_of, signed_edges, side, ring, rings, smallest}
use Rattle.plane_model.specs.Component.{component, components}
use Rattle.plane_model.proofs.SetLaws.{same_is, same_self, same_edges}
use Rattle.plane_model.proofs.Rounds.{RingFacts}
use Rattle.plane_model.proofs.SortedEdges.{rank, not_before, same_rank, smallest_least}
use Rattle.plane_model.proofs.RotationOrbits.{Parts, named, name_there, name_one, is_named, ring_parts, signed_apart}
use Rattle.plane_model.proofs.ComponentParts.{component_own, component_parts, component-ring, one_side}
use Rattle.plane_model.proofs.ComponentParts as parts
use Rattle.placement_laws.specs.Placing.{IsLabelledRotation}

-- what is known of rings and components: each is a part of the signed edges, the same for each signed edge in it
pub record HasParts (m : PlaneMap) : Type 0 where
  pub once : is_distinct_edges (signed_edges m) ≡ true
  pub rings : Parts (signed_edges m) (ring m)
  pub components : Parts (signed_edges m) (component m)
  -- a ring lies in one component, and on one face
  pub together : (d e : ℤ) → has_edge (signed_edges m) d ≡ true → has_edge (ring m d) e ≡ true → has_edge (component m d) e ≡ true
  pub one_face : (d e : ℤ) → has_edge (signed_edges m) d ≡ true → has_edge (ring m d) e ≡ true → side m e ≡ side m d
  pub facts : RingFacts m

pub parts_of : (t : Rows) → IsLabelledRotation t → HasParts (map_of t)
parts_of t h =
    record {
      once = signed_apart (map_of t) h.rotation;
      rings = ring_parts t h.rotation;
      components = component_parts t h.rotation;
      together = λ d e k on. component-ring t h.rotation d d e k k on ∙ component_own (map_of t) d k;
      one_face = λ d e k on. one_side t h.rotation h.labelled d e k on;
      facts = parts.ring_facts t h.rotation h.labelled;
    }

-- parts of signed edges, rings or components

part_sub : (us : List ℤ) (part : ℤ → List ℤ) → Parts us part → (d e x : ℤ) → has_edge us d ≡ true → has_edge (part d) e ≡ true → has_edge (part e) x ≡ true → has_edge (part d) x ≡ true
part_sub us part p d e x h k more = sym (p.same d e h k x) ∙ more

part_sym : (us : List ℤ) (part : ℤ → List ℤ) → Parts us part → (d e : ℤ) → has_edge us d ≡ true → has_edge (part d) e ≡ true → has_edge (part e) d ≡ true
part_sym us part p d e h k = p.same d e h k d ∙ p.own d h

part_name-same : (us : List ℤ) (part : ℤ → List ℤ) → Parts us part → (d e : ℤ) → has_edge us d ≡ true → has_edge (part d) e ≡ true → smallest e (part e) ≡ smallest d (part d)
part_name-same us part p d e h k = let n = is_named us part p in n.same d e h k

part_one : (us : List ℤ) (part : ℤ → List ℤ) → Parts us part → (r q : ℤ) → has_edge (named us part) r ≡ true → has_edge (named us part) q ≡ true → has_edge (part r) q ≡ true → r ≡ q
unfolding named
part_one us part p r q h k on =
    let hq = from_filter same_edges (λ d. same_edge d (smallest d (part d))) us q k in
    name_one us part p q r hq.1 h on ∙ sym (same_is q (smallest q (part q)) hq.0)

part_alike : (us : List ℤ) (part : ℤ → List ℤ) → Parts us part → (d e : ℤ) → has_edge us d ≡ true → has_edge us e ≡ true → has_edge (part d) e ≡ same_edge (smallest d (part d)) (smallest e (part e))
part_alike us part p d e h k =
    let n = is_named us part p in
    same_tests (has_edge (part d) e) (same_edge (smallest d (part d)) (smallest e (part e)))
    (λ on. subst (λ z. same_edge (smallest d (part d)) z ≡ true) (sym (n.same d e h on)) (same_self (smallest d (part d))))
    (λ same. n.apart d e h k (sym (same_is (smallest d (part d)) (smallest e (part e)) same)))

-- the smallest of a set that has d is in it
name_in : (ds : List ℤ) (d : ℤ) → has_edge ds d ≡ true → has_edge ds (smallest d ds) ≡ true
name_in ds d h =
    let s = smallest_least d ds in
    elim (or_cases (same_edge (smallest d ds) d) (has_edge ds (smallest d ds)) s.there) [
      | inl is ↦ subst (λ z. has_edge ds z ≡ true) (sym (same_is (smallest d ds) d is)) h
      | inr more ↦ more
    ]

-- components

pub component_within : (m : PlaneMap) → HasParts m → (d e : ℤ) → has_edge (signed_edges m) d ≡ true → has_edge (component m d) e ≡ true → has_edge (signed_edges m) e ≡ true
component_within m g d e h k = let p = g.components in p.inside d e h k

pub component_self : (m : PlaneMap) (d : ℤ) → has_edge (signed_edges m) d ≡ true → has_edge (component m d) d ≡ true
component_self m d h = component_own m d h

-- the component of a member is within the component, and holds the first
pub component_sub : (m : PlaneMap) → HasParts m → (d e x : ℤ) → has_edge (signed_edges m) d ≡ true → has_edge (component m d) e ≡ true → has_edge (component m e) x ≡ true → has_edge (component m d) x ≡ true
component_sub m g d e x h k more = part_sub (signed_edges m) (component m) g.components d e x h k more

pub component_sym : (m : PlaneMap) → HasParts m → (d e : ℤ) → has_edge (signed_edges m) d ≡ true → has_edge (component m d) e ≡ true → has_edge (component m e) d ≡ true
component_sym m g d e h k = part_sym (signed_edges m) (component m) g.components d e h k

abbrev pub component_name : PlaneMap → ℤ → ℤ
component_name m d = smallest d (component m d)

pub component_name-in : (m : PlaneMap) (d : ℤ) → has_edge (signed_edges m) d ≡ true → has_edge (component m d) (component_name m d) ≡ true
component_name-in m d h = name_in (component m d) d (component_own m d h)

pub component_name-same : (m : PlaneMap) → HasParts m → (d e : ℤ) → has_edge (signed_edges m) d ≡ true → has_edge (component m d) e ≡ true → component_name m e ≡ component_name m d
component_name-same m g d e h k = part_name-same (signed_edges m) (component m) g.components d e h k

pub component_name-there : (m : PlaneMap) → HasParts m → (d : ℤ) → has_edge (signed_edges m) d ≡ true → has_edge (components m) (component_name m d) ≡ true
unfolding named
component_name-there m g d h = (name_there (signed_edges m) (component m) g.components d h).0

pub components-one : (m : PlaneMap) → HasParts m → (c d : ℤ) → has_edge (components m) c ≡ true → has_edge (components m) d ≡ true → has_edge (component m c) d ≡ true → c ≡ d
unfolding named
components-one m g c d h k on = part_one (signed_edges m) (component m) g.components c d h k on

pub components-signed : (m : PlaneMap) (c : ℤ) → has_edge (components m) c ≡ true → has_edge (signed_edges m) c ≡ true
components-signed m c h = (from_filter same_edges (λ x. same_edge x (smallest x (component m x))) (signed_edges m) c h).1

pub components-apart : (m : PlaneMap) → HasParts m → is_distinct_edges (components m) ≡ true
components-apart m g = apart_kept same_edges (λ x. same_edge x (smallest x (component m x))) (signed_edges m) g.once

pub component_alike : (m : PlaneMap) → HasParts m → (d e : ℤ) → has_edge (signed_edges m) d ≡ true → has_edge (signed_edges m) e ≡ true → has_edge (component m d) e ≡ same_edge (component_name m d) (component_name m e)
component_alike m g d e h k = part_alike (signed_edges m) (component m) g.components d e h k

-- rings

abbrev pub ring_name : PlaneMap → ℤ → ℤ
ring_name m d = smallest d (ring m d)

pub ring_within : (m : PlaneMap) → HasParts m → (d e : ℤ) → has_edge (signed_edges m) d ≡ true → has_edge (ring m d) e ≡ true → has_edge (signed_edges m) e ≡ true
ring_within m g d e h k = let p = g.rings in p.inside d e h k

pub ring_name-on : (m : PlaneMap) → HasParts m → (d : ℤ) → has_edge (signed_edges m) d ≡ true → has_edge (ring m d) (ring_name m d) ≡ true
ring_name-on m g d h = let p = g.rings in name_in (ring m d) d (p.own d h)

pub ring_name-same : (m : PlaneMap) → HasParts m → (d e : ℤ) → has_edge (signed_edges m) d ≡ true → has_edge (ring m d) e ≡ true → ring_name m e ≡ ring_name m d
ring_name-same m g d e h k = part_name-same (signed_edges m) (ring m) g.rings d e h k

pub ring_name-there : (m : PlaneMap) → HasParts m → (d : ℤ) → has_edge (signed_edges m) d ≡ true → has_edge (rings m) (ring_name m d) ≡ true
unfolding named
ring_name-there m g d h = (name_there (signed_edges m) (ring m) g.rings d h).0

pub rings-one : (m : PlaneMap) → HasParts m → (r q : ℤ) → has_edge (rings m) r ≡ true → has_edge (rings m) q ≡ true → has_edge (ring m r) q ≡ true → r ≡ q
unfolding named
rings-one m g r q h k on = part_one (signed_edges m) (ring m) g.rings r q h k on

pub rings-signed : (m : PlaneMap) (r : ℤ) → has_edge (rings m) r ≡ true → has_edge (signed_edges m) r ≡ true
rings-signed m r h = (from_filter same_edges (λ x. same_edge x (smallest x (ring m x))) (signed_edges m) r h).1

pub rings-apart : (m : PlaneMap) → HasParts m → is_distinct_edges (rings m) ≡ true
rings-apart m g = apart_kept same_edges (λ x. same_edge x (smallest x (ring m x))) (signed_edges m) g.once

pub ring_alike : (m : PlaneMap) → HasParts m → (d e : ℤ) → has_edge (signed_edges m) d ≡ true → has_edge (signed_edges m) e ≡ true → has_edge (ring m d) e ≡ same_edge (ring_name m d) (ring_name m e)
ring_alike m g d e h k = part_alike (signed_edges m) (ring m) g.rings d e h k

pub ring_component : (m : PlaneMap) → HasParts m → (d e : ℤ) → has_edge (signed_edges m) d ≡ true → has_edge (ring m d) e ≡ true → has_edge (component m d) e ≡ true
ring_component m g d e h k = g.together d e h k

pub ring_side : (m : PlaneMap) → HasParts m → (d e : ℤ) → has_edge (signed_edges m) d ≡ true → has_edge (ring m d) e ≡ true → side m e ≡ side m d
ring_side m g d e h k = g.one_face d e h k

-- the smallest signed edge of a component names its own ring
pub components-rings : (m : PlaneMap) → HasParts m → (c : ℤ) → has_edge (components m) c ≡ true → has_edge (rings m) c ≡ true
components-rings m g c h =
    let it = from_filter same_edges (λ x. same_edge x (smallest x (component m x))) (signed_edges m) c h in
    let n = ring_name m c in
    let of_ring = smallest_least c (ring m c) in
    let of_component = smallest_least c (component m c) in
    let low = not_before c n (of_ring.least c (or_left (same_edge c c) _ (same_self c)) refl) in
    let least = not_before n (component_name m c) (of_component.least n (or_right (same_edge n c) _ (ring_component m g c n it.1 (ring_name-on m g c it.1))) refl) in
    let name = ap rank (same_is c (component_name m c) it.0) in
    let is : n ≡ c = same_rank n c (omega arith) in
    subst (λ z. has_edge (rings m) z ≡ true) is (ring_name-there m g c it.1)
