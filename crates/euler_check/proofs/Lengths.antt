-- The lengths of parts sum to the number of signed edges.
use Rattle.std.proofs.Common.{◌≡◌, ℤ, true, List, [], ◌∷◌, length, refl, sym, ◌∙◌, arith}
use Rattle.std.specs.Prelude.{flat_map, sum_by}
use Rattle.std.proofs.lemmas.List.{length-append}
use Rattle.std.proofs.lemmas.List.Sums.{sum_by-append}
use Rattle.topo_base.specs.SignedEdge.{same_edge}
use Rattle.orbits.proofs.Lists.{from_filter, apart_kept}
use Rattle.plane_model.proofs.SetLaws.{same_edges}
use Rattle.plane_model.specs.Component.{component, components}
use Rattle.plane_model.specs.Orders.{AreNames, Permutes}
use Rattle.plane_model.specs.PlaneMap.{map_of, ring, rings, signed_edges, smallest, until_return}
use Rattle.plane_model.specs.Rotation.{is_rotation}
use Rattle.plane_model.specs.Rows.{Rows}
use Rattle.plane_model.specs.Sets.{is_distinct_edges}
use Rattle.plane_model.proofs.ComponentParts.{orbit_partition}
use Rattle.plane_model.proofs.RotationOrbits.{Parts, name_one, name_there, named}
use Rattle.plane_model.proofs.Sums.{all_components, all_parts, all_rings}
use Rattle.euler_check.specs.Orbits.{orbit_names}

sum-flat : (part : ℤ → List ℤ) (ns : List ℤ) → sum_by (λ d. length (part d)) ns ≡ length (flat_map part ns)
sum-flat part [] = refl
sum-flat part (n ∷ ns) =
    let more = sum-flat part ns in
    let one = sum_by-append (λ d. length (part d)) (n ∷ []) ns in
    let both = length-append (part n) (flat_map part ns) in
    omega arith

pub ring_lengths : (t : Rows) → is_rotation (map_of t) ≡ true → sum_by (λ d. length (ring (map_of t) d)) (rings (map_of t)) ≡ length (signed_edges (map_of t))
ring_lengths t h = sum-flat (ring (map_of t)) (rings (map_of t)) ∙ (all_rings t h).as_many

pub component_lengths : (t : Rows) → is_rotation (map_of t) ≡ true → sum_by (λ d. length (component (map_of t) d)) (components (map_of t)) ≡ length (signed_edges (map_of t))
component_lengths t h = sum-flat (component (map_of t)) (components (map_of t)) ∙ (all_components t h).as_many

-- each signed edge is in the orbit of one of the names
orbits_named : (us : List ℤ) (step : ℤ → ℤ) → Permutes us step → AreNames us (λ d. until_return (length us) step d d) (orbit_names us step)
unfolding named
orbits_named us step permutes =
    let p = orbit_partition us step permutes in
    let parts : Parts us (λ d. until_return (length us) step d d) =
    record { own = p.own; inside = p.inside; same = λ d x there on y. p.same x d x (p.inside d x there on) there (p.own x (p.inside d x there on)) on y } in
    record {
      among = λ r on. (from_filter same_edges (λ e. same_edge e (smallest e (until_return (length us) step e e))) us r on).1;
      there = λ d there.
          let n = name_there us (λ d. until_return (length us) step d d) parts d there in
          (smallest d (until_return (length us) step d d), n.0, parts.same d (smallest d (until_return (length us) step d d)) there n.1 d ∙ p.own d there);
      one = λ d q r there q_in r_in on_q on_r. name_one us (λ d. until_return (length us) step d d) parts d q there q_in on_q ∙ sym (name_one us (λ d. until_return (length us) step d d) parts d r there r_in on_r);
    }

pub orbit_lengths : (us : List ℤ) (step : ℤ → ℤ) → is_distinct_edges us ≡ true → Permutes us step → sum_by (λ d. length (until_return (length us) step d d)) (orbit_names us step) ≡ length us
orbit_lengths us step apart permutes =
    sum-flat (λ d. until_return (length us) step d d) (orbit_names us step)
    ∙ (all_parts us (λ d. until_return (length us) step d d) (orbit_names us step) apart (apart_kept same_edges (λ e. same_edge e (smallest e (until_return (length us) step e e))) us apart) (orbit_partition us step permutes) (orbits_named us step permutes)).as_many
