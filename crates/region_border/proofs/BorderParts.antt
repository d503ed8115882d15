-- Border rings partition the border edges: all of them together are the border edges, each once, and what is looked at on the way round them is no more than all.
use Rattle.std.proofs.Common.{◌≡◌, ℕ, zero, suc, ◌+◌, ◌≤◌, inl, inr, ℤ, Bool, true, false, ◌&&◌, List, [], ◌∷◌, ◌++◌, map, length, refl, sym, ap, ◌∙◌, subst, arith}
use Rattle.std.specs.Prelude.{filter, flat_map}
use Rattle.std.proofs.lemmas.Bool.{and_parts, or_cases, cases_Bool, both_ways}
use Rattle.orbits.specs.Walks as walks
use Rattle.orbits.specs.Walks.{returns, until_return}
use Rattle.orbits.proofs.Lists.{pigeon, from_filter, apart_kept}
use Rattle.orbits.proofs.Orbits.{orbit_returns, orbit_own, orbit_inside, orbit_same}
use Rattle.topo_base.specs.SignedEdge.{same_edge}
use Rattle.plane_model.specs.Rows.{Rows}
use Rattle.plane_model.specs.Sets.{has_edge, is_distinct_edges}
use Rattle.plane_model.specs.PlaneMap.{PlaneMap, map_of, signed_edges, smallest}
use Rattle.plane_model.specs.Rotation.{is_rotation_system}
use Rattle.plane_model.specs.Faces.{is_labelled, is_placed}
use Rattle.plane_model.specs.Component.{is_plane}
use Rattle.plane_model.specs.Regions.{is_region_forest}
use Rattle.plane_model.specs.Consistent.{is_consistent}
use Rattle.plane_model.specs.InRange.{is_in_range}
use Rattle.plane_model.specs.Orders.{Permutes, IsPartition, AreNames, IsAllOf}
use Rattle.plane_model.specs.Border.{is_border, outline, border_ring, border}
use Rattle.plane_model.proofs.SetLaws.{same_edges}
use Rattle.plane_model.proofs.RotationOrbits.{signed_apart, Parts, named, name_there, name_one}
use Rattle.plane_model.proofs.ComponentParts.{orbit_partition}
use Rattle.plane_model.proofs.Sums.{from_flat, flat_apart, all_parts}
use Rattle.placement_laws.proofs.Tables.{labelled_rotation_of}
use Rattle.region_border.specs.Looked.{looked}
use Rattle.region_border.proofs.Outlines.{IsTurned, turned_of, borders, listed, outlines_permute, looked_in, looked_apart, looked_one}

-- a walk that returns has no more with more fuel
pub until-more : (n k : ℕ) (step : ℤ → ℤ) (first d : ℤ) → n ≤ k → returns same_edge n step first d ≡ true → until_return same_edge k step first d ≡ until_return same_edge n step first d
unfolding until_return
until-more zero k step first d l h = absurd (both_ways false refl h)
until-more (suc n) zero step first d l h = absurd (omega (arith, l))
until-more (suc n) (suc k) step first d l h = elim (cases_Bool (same_edge (step d) first)) [
  | inl e ↦ rw e refl
  | inr e ↦ rw e (ap (λ ds. d ∷ ds) (until-more n k step first (step d) (omega (arith, l)) (later h e)))
]
  where
    later : returns same_edge (suc n) step first d ≡ true → same_edge (step d) first ≡ false → returns same_edge n step first (step d) ≡ true
    later h e = elim (or_cases (same_edge (step d) first) _ h) [ inl is ↦ absurd (both_ways _ e is) | inr more ↦ more ]

pub filter-few : (p : ℤ → Bool) (ds : List ℤ) → length (filter p ds) ≤ length ds
filter-few p [] = omega arith
filter-few p (d ∷ ds) = let more = filter-few p ds in elim (cases_Bool (p d)) [ inl e ↦ rw e (omega (arith, more)) | inr e ↦ rw e (omega (arith, more)) ]

pub filter-both : (p q : ℤ → Bool) (ds : List ℤ) → filter q (filter p ds) ≡ filter (λ d. p d && q d) ds
filter-both p q [] = refl
filter-both p q (d ∷ ds) = elim (cases_Bool (p d)) [
  | inl e ↦ elim (cases_Bool (q d)) [
    | inl f ↦ rw (e, f) (ap (λ xs. d ∷ xs) (filter-both p q ds))
    | inr f ↦ rw (e, f) (filter-both p q ds)
  ]
  | inr e ↦ rw e (filter-both p q ds)
]

-- a list of lists by what they are made from
pub flat-map : (part : ℤ → List ℤ) (ns : List ℤ) → flat_map (λ ds. ds) (map part ns) ≡ flat_map part ns
flat-map part [] = refl
flat-map part (n ∷ ns) = ap (λ ds. part n ++ ds) (flat-map part ns)

module _ (m : PlaneMap) (r : ℕ) (w : IsTurned m) where
  abbrev all : List ℤ
  all = signed_edges m

  abbrev edges : List ℤ
  edges = borders m r w

  permutes : Permutes edges (outline m r)
  permutes = outlines_permute m r w

  -- a border ring is an orbit among the border edges
  ring-orbit : (d : ℤ) → has_edge edges d ≡ true → border_ring m r d ≡ walks.orbit same_edge edges (outline m r) d
  ring-orbit d on = until-more (length edges) (length all) (outline m r) d d (filter-few (is_border m r) all) (orbit_returns same_edges edges (outline m r) permutes d on)

  pub ring_parts : Parts edges (border_ring m r)
  ring_parts =
      record {
        own = λ d on. subst (λ ds. has_edge ds d ≡ true) (sym (ring-orbit d on)) (orbit_own same_edges edges (outline m r) d on);
        inside = λ d x on at. orbit_inside same_edges edges (outline m r) permutes d x on (subst (λ ds. has_edge ds x ≡ true) (ring-orbit d on) at);
        same = λ d x on at y.
            let at' = subst (λ ds. has_edge ds x ≡ true) (ring-orbit d on) at in
            let x_on = orbit_inside same_edges edges (outline m r) permutes d x on at' in
            ap (λ ds. has_edge ds y) (ring-orbit x x_on) ∙ orbit_same same_edges edges (outline m r) permutes d x on at' y ∙ sym (ap (λ ds. has_edge ds y) (ring-orbit d on));
      }

  ring_partition : IsPartition edges (border_ring m r)
  ring_partition =
      let p = orbit_partition edges (outline m r) permutes in
      record {
        own = ring_parts.own;
        inside = ring_parts.inside;
        once = λ d on. subst (λ ds. is_distinct_edges ds ≡ true) (sym (ring-orbit d on)) (p.once d on);
        same = λ d e x d_on e_on at_d at_e y. sym (ring_parts.same d x d_on at_d y) ∙ ring_parts.same e x e_on at_e y;
      }

  ring_names : AreNames edges (border_ring m r) (named edges (border_ring m r))
  unfolding named
  ring_names =
      record {
        among = λ q h. (from_filter same_edges (λ e. same_edge e (smallest e (border_ring m r e))) edges q h).1;
        there = λ d h.
            let n = name_there edges (border_ring m r) ring_parts d h in
            (smallest d (border_ring m r d), n.0, ring_parts.same d (smallest d (border_ring m r d)) h n.1 d ∙ ring_parts.own d h);
        one = λ d q s there q_in s_in on_q on_s. name_one edges (border_ring m r) ring_parts d q there q_in on_q ∙ sym (name_one edges (border_ring m r) ring_parts d s there s_in on_s);
      }

  pub named-is : named edges (border_ring m r) ≡ filter (λ d. is_border m r d && same_edge d (smallest d (border_ring m r d))) all
  unfolding named
  named-is = filter-both (is_border m r) (λ d. same_edge d (smallest d (border_ring m r d))) all

  pub all_borders : is_distinct_edges all ≡ true → IsAllOf edges (flat_map (λ ds. ds) (border m r))
  unfolding named
  all_borders apart =
      let edges_apart = apart_kept same_edges (is_border m r) all apart in
      let names_apart = apart_kept same_edges (λ e. same_edge e (smallest e (border_ring m r e))) edges edges_apart in
      let they = all_parts edges (border_ring m r) (named edges (border_ring m r)) edges_apart names_apart ring_partition ring_names in
      subst (IsAllOf edges) (sym (flat-map (border_ring m r) (filter (λ d. is_border m r d && same_edge d (smallest d (border_ring m r d))) all)
      ∙ ap (flat_map (border_ring m r)) (sym named-is))) they

  -- no more signed edges are looked at than there are
  pub looked_few : (ds : List ℤ) → is_distinct_edges ds ≡ true → ((d : ℤ) → has_edge ds d ≡ true → has_edge edges d ≡ true) → length (flat_map (looked m r) ds) ≤ length all
  looked_few ds apart within =
      pigeon same_edges (flat_map (looked m r) ds) all
      (flat_apart (looked m r) ds apart
      (λ d on. let p = listed m r w d (within d on) in looked_apart m r w d p.1 p.0)
      (λ d e x on on' at at'. let p = listed m r w d (within d on) in let q = listed m r w e (within e on') in looked_one m r w d e x p.1 q.1 p.0 q.0 at at'))
      (λ x on. let d = from_flat (looked m r) ds x on in let p = listed m r w d.0 (within d.0 d.1) in (looked_in m r w d.0 x p.1 p.0 d.2).there)

-- what consistent tables have of it
pub consistent_turned : (t : Rows) → is_in_range t ≡ true → is_consistent t ≡ true → IsTurned (map_of t) × (is_distinct_edges (signed_edges (map_of t)) ≡ true)
consistent_turned t range ok =
    let a = and_parts _ (is_region_forest t) ok in
    let b = and_parts _ (is_placed (map_of t)) a.0 in
    let c = and_parts _ (is_plane (map_of t)) b.0 in
    let d = and_parts (is_rotation_system t) (is_labelled (map_of t)) c.0 in
    let l = labelled_rotation_of t range d.0 d.1 in
    (turned_of t l.rotation l.labelled, signed_apart (map_of t) l.rotation)
