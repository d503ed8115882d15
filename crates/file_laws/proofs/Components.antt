-- The components of the map are those of the code.
use Rattle.std.proofs.Common.{◌≡◌, ℕ, zero, suc, ◌+◌, ◌-◌, ◌<◌, ◌≤◌, ◌↔◌, inl, inr, true, false, length, refl, ap, ◌∙◌, arith, subst}
use Rattle.std.proofs.lemmas.Bool.{cases_Bool}
use Rattle.topo_base.specs.SignedEdge.{reverse}
use Rattle.orbits.specs.Components.{InComponent}
use Rattle.orbits.specs.Components.InComponent.{itself, reversed, turned_on}
use Rattle.orbits.specs.Renaming.{Carries}
use Rattle.orbits.proofs.Carried.{component_listed}
use Rattle.file_laws.proofs.Orbits.{positions_named, turn_carried}
use Rattle.plane_model.proofs.SetLaws.{same_edges}
use Rattle.plane_model.specs.Sets.{has_edge}
use Rattle.plane_model.specs.PlaneMap.{PlaneMap, map_of, signed_edges, turn as turn_edge}
use Rattle.plane_model.specs.Component.{component}
use Rattle.plane_model.proofs.RotationOrbits.{whole_rotation}
use Rattle.placement_laws.specs.Placing.{IsLabelledRotation}
use Rattle.placement_laws.proofs.Tables.{labelled_rotation_of}
use Rattle.code_laws.specs.Code.{is_tree, mate, turn, after, component_of, start_of, end_of}
use Rattle.code_laws.proofs.Places.{over_other, over_mate}
use Rattle.code_laws.proofs.Steps.{IsIn, after_next, after_last}
use Rattle.code_laws.proofs.Sound.{in_one, is_well, is_component, rises}
use Rattle.code_laws.proofs.Edges.{laws}
use Rattle.code_laws.proofs.Beside.{step_beside}
use Rattle.file_laws.specs.Contents.{Contents}
use Rattle.file_laws.specs.MapOfFile.{signed_at, rows_of_contents}
use Rattle.file_laws.specs.Agreement.{Agrees}
use Rattle.file_laws.proofs.Agreement.{agrees}
use Rattle.file_laws.proofs.Consistency.{labelled}
use Rattle.file_laws.proofs.Whole.{WholeParts}
use Rattle.file_laws.proofs.InRange.{in_range}
use Rattle.file_laws.proofs.Rotation.{rotation, rotation_system}

module _ (c : Contents) (w : WholeParts c) where
  abbrev m : PlaneMap
  m = map_of (rows_of_contents c)

  abbrev a : Agrees c m
  a = agrees c w.seen

  pub labelled_rotation : IsLabelledRotation (rows_of_contents c)
  labelled_rotation = labelled_rotation_of (rows_of_contents c) (in_range c w) (rotation_system c w) (labelled c w.seen)

  -- a position of the component of another has its bounds
  pub bounds : (p m q : ℕ) → IsIn c.code p m → q < length c.code.a → component_of c.code q ≡ m → (start_of c.code m ≤ q) × (q < end_of c.code m)
  bounds = (is_well c.code w.seen.sound).other_one

  -- signed edges are names of positions, which carry mates
  mate_carried : Carries (λ p. p < length c.code.a) (signed_at c) (mate c.code) reverse
  mate_carried = record { stays = λ p l. (laws c.code w.seen.sound p l).within; same = λ p l. a.reversed p l }

  -- what is reached from a position has the number of its component
  reached_to : (p q : ℕ) → p < length c.code.a → InComponent (mate c.code) (turn c.code) p q → (q < length c.code.a) × (component_of c.code q ≡ component_of c.code p)
  reached_to p q l itself = (l, refl)
  reached_to p q l (reversed x k) = let r = reached_to p x l k in let e = laws c.code w.seen.sound x r.0 in (e.within, e.component ∙ r.1)
  reached_to p q l (turned_on x k) = let r = reached_to p x l k in let t = step_beside c.code w.seen.sound true x r.0 in (t.0, t.1.component ∙ r.1)

  -- and the positions of a component are reached, each after the one before
  after_mate : (x : ℕ) → x < length c.code.a → is_tree c.code x ≡ true → turn c.code (mate c.code x) ≡ after c.code x
  after_mate x l is = let k = laws c.code w.seen.sound x l in ap (after c.code) (over_mate c.code true (mate c.code x) (k.kind ∙ is) ∙ k.back)

  after_turn : (x : ℕ) → is_tree c.code x ≡ false → turn c.code x ≡ after c.code x
  after_turn x is = ap (after c.code) (over_other c.code true x is)

  module _ (p : ℕ) (l : p < length c.code.a) where
    abbrev K : ℕ → Type 0
    K x = InComponent (mate c.code) (turn c.code) p x

    goes_on : (x : ℕ) → x < length c.code.a → K x → K (after c.code x)
    goes_on x k on = elim (cases_Bool (is_tree c.code x)) [
      | inl is ↦ subst (λ y. InComponent (mate c.code) (turn c.code) p y) (after_mate x k is) (turned_on (mate c.code x) (reversed x on))
      | inr is ↦ subst (λ y. InComponent (mate c.code) (turn c.code) p y) (after_turn x is) (turned_on x on)
    ]

    up : (j : ℕ) → IsIn c.code p j → (d x y : ℕ) → start_of c.code j ≤ x → y ≡ x + d → y < end_of c.code j → K x → K y
    up j i zero x y from is to on = let e : x ≡ y = omega arith in subst (λ y. InComponent (mate c.code) (turn c.code) p y) e on
    up j i (suc d) x y from is to on =
        let x_is = is_component c.code w.seen.sound x j i.count from (omega arith) in
        let next : after c.code x ≡ x + 1 = after_next c.code x j x_is (λ e. absurd (omega (arith, e, is, to))) in
        up j i d (x + 1) y (omega arith) (omega arith) to (subst (λ y. InComponent (mate c.code) (turn c.code) p y) next (goes_on x (omega (arith, i.within, to, is)) on))

    reached_from : (q : ℕ) → q < length c.code.a → component_of c.code q ≡ component_of c.code p → K q
    reached_from q k same =
        let i = in_one c.code w.seen.sound p l in
        let b = bounds p i.0 q i.1 k (same ∙ i.1.is) in
        let j = i.0 in
        let last = end_of c.code j - 1 in
        let to = i.1.to in
        let from = i.1.from in
        let rise = rises c.code w.seen.sound.laid j i.1.count in
        let at_last : K last = up j i.1 (last - p) p last from (omega (arith, to)) (omega (arith, to)) itself in
        let last_is = is_component c.code w.seen.sound last j i.1.count (omega (arith, rise)) (omega (arith, rise)) in
        let wraps : after c.code last ≡ start_of c.code j = after_last c.code last j last_is (omega (arith, rise)) in
        let at_start : K (start_of c.code j) = subst (λ y. InComponent (mate c.code) (turn c.code) p y) wraps (goes_on last (omega (arith, rise, i.1.within)) at_last) in
        up j i.1 (q - start_of c.code j) (start_of c.code j) q (omega arith) (omega (arith, b.0)) b.1 at_start

  same_component : (p q : ℕ) → p < length c.code.a → q < length c.code.a → InComponent (mate c.code) (turn c.code) p q ↔ (has_edge (component m (signed_at c p)) (signed_at c q) ≡ true)
  same_component p q l k =
      component_listed same_edges (λ p. p < length c.code.a) (signed_edges m) (signed_at c) (mate c.code) (turn c.code) reverse (turn_edge m)
      (positions_named c w) mate_carried (turn_carried c w) (whole_rotation (rows_of_contents c) (rotation c w)) p q l k

  pub component_to : (p q : ℕ) → p < length c.code.a → q < length c.code.a → has_edge (component m (signed_at c p)) (signed_at c q) ≡ true → component_of c.code q ≡ component_of c.code p
  component_to p q l k on = (reached_to p q l ((same_component p q l k).1 on)).1

  pub component_from : (p : ℕ) → p < length c.code.a → (q : ℕ) → q < length c.code.a → component_of c.code q ≡ component_of c.code p → has_edge (component m (signed_at c p)) (signed_at c q) ≡ true
  component_from p l q k same = (same_component p q l k).0 (reached_from p l q k same)
