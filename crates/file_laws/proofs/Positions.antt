-- Rings, rounds, components and outer rings of the map, by position.
use Rattle.std.specs.Prelude.{map}
use Rattle.std.proofs.Common.{◌≡◌, ℕ, ◌<◌, true, false, length, ap, sym, ◌∙◌, arith, subst, Some, ◌==◌}
use Rattle.std.proofs.lemmas.Bool.{eqb-true, eq-eqb}
use Rattle.plane_model.specs.Sets.{has_edge}
use Rattle.plane_model.specs.PlaneMap.{PlaneMap, map_of, ring, round}
use Rattle.plane_model.specs.Component.{component}
use Rattle.plane_model.specs.Faces.{outer_rings, outer_ring}
use Rattle.orbits.proofs.Lists.{same_tests}
use Rattle.placement_laws.proofs.Lists.{find_one}
use Rattle.code_laws.specs.Code.{component_of, start_of}
use Rattle.code_laws.specs.Orbits.{orbit}
use Rattle.code_laws.proofs.Sound.{in_one}
use Rattle.file_laws.specs.Contents.{Contents, component_count}
use Rattle.file_laws.specs.MapOfFile.{signed_at, rows_of_contents}
use Rattle.file_laws.specs.Lawful.{is_whole}
use Rattle.file_laws.proofs.Whole.{WholeParts, whole_parts}
use Rattle.file_laws.proofs.Fits.{components_same}
use Rattle.file_laws.proofs.Orbits.{ring-orbit, round-orbit}
use Rattle.file_laws.proofs.Components.{component_to, component_from}
use Rattle.file_laws.proofs.Placed.{start_in, start_component, start_has, start_from, outer_starts}

module _ (c : Contents) (h : is_whole c ≡ true) where
  abbrev m : PlaneMap
  m = map_of (rows_of_contents c)

  w : WholeParts c
  w = whole_parts c h

  pub rings_at : (p : ℕ) → p < length c.code.a → ring m (signed_at c p) ≡ map (signed_at c) (orbit c.code false p)
  rings_at p l = ring-orbit c w p l

  pub rounds_at : (p : ℕ) → p < length c.code.a → round m (signed_at c p) ≡ map (signed_at c) (orbit c.code true p)
  rounds_at p l = round-orbit c w p l

  pub components_at : (p q : ℕ) → p < length c.code.a → q < length c.code.a → has_edge (component m (signed_at c p)) (signed_at c q) ≡ (component_of c.code q == component_of c.code p)
  components_at p q l k =
      same_tests (has_edge (component m (signed_at c p)) (signed_at c q)) (component_of c.code q == component_of c.code p)
      (λ on. eq-eqb _ _ (component_to c w p q l k on))
      (λ e. component_from c w p l q k (eqb-true _ _ e))

  -- the outer ring of a component is that of its start
  pub outer_at : (p : ℕ) → p < length c.code.a → outer_ring m (signed_at c p) ≡ Some (signed_at c (start_of c.code (component_of c.code p)))
  outer_at p l =
      let i = in_one c.code w.seen.sound p l in
      let k = components_same c w in
      let j = component_of c.code p in
      let j_in : j < component_count c = omega (arith, i.1.count, i.1.is, k) in
      let own = start_component c w j j_in in
      find_one (λ r. has_edge (component m r) (signed_at c p)) (outer_rings m) (signed_at c (start_of c.code j))
      (outer_starts c w (signed_at c (start_of c.code j)) ∙ start_has c w j j_in)
      (component_from c w (start_of c.code j) (start_in c w j j_in) p l (sym own))
      (λ r there on.
      let i = start_from c w r (sym (outer_starts c w r) ∙ there) in
      let on' : has_edge (component m (signed_at c (start_of c.code i.0))) (signed_at c p) ≡ true = subst (λ x. has_edge (component m x) (signed_at c p) ≡ true) (sym i.2) on in
      let same = component_to c w (start_of c.code i.0) p (start_in c w i.0 i.1) l on' in
      let number : i.0 ≡ j = sym (start_component c w i.0 i.1) ∙ sym same in
      sym i.2 ∙ ap (λ x. signed_at c (start_of c.code x)) number)
