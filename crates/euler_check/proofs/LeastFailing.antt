-- The edge with the least id whose component isn't plane, as the rows are gone through.
use Rattle.std.proofs.Common.{◌≡◌, ℕ, zero, suc, ◌+◌, ◌*◌, ◌/◌, ◌%◌, ◌<◌, ◌≤◌, inl, inr, ℤ, Bool, true, false, not, ◌&&◌, ◌==◌, [], ◌∷◌, map, length, refl, sym, ap, ◌∙◌, subst, arith, eq-eqb, Option, Some, None}
use Rattle.std.specs.Prelude.{find, nat_le, nat_lt, option_map, if◌then◌else◌}
use Rattle.std.proofs.lemmas.Bool.{cases_Bool, cases_eq, both_ways, or_left, le-ltb, leb-true, leb-false}
use Rattle.std.proofs.lemmas.List.Folds.{list_all-map}
use Rattle.topo_base.specs.SignedEdge.{comes_before, edge_of, is_forward, reverse, same_edge}
use Rattle.orbits.specs.Components as sets
use Rattle.orbits.proofs.Lists.{from_filter, in_filter}
use Rattle.plane_model.specs.declared.rows.EdgeRow.{EdgeRow}
use Rattle.plane_model.specs.Sets.{has_edge}
use Rattle.plane_model.specs.Orders.{is_rising_edges}
use Rattle.plane_model.specs.PlaneMap.{signed_edges, smallest}
use Rattle.plane_model.specs.Component.{grown_by, component, components, is_plane_component, node_count, edge_count, ring_count}
use Rattle.plane_model.specs.Faults.{not_plane}
use Rattle.plane_model.proofs.SetLaws.{same_self, same_edges}
use Rattle.plane_model.proofs.Sorting.{none_found, rising-all, rising_strictly}
use Rattle.plane_model.proofs.SortedEdges.{not_before, rising_filter, same_rank, same_rising_edges, signed_edges_rise, smallest_found, smallest_least}
use Rattle.plane_model.proofs.RotationOrbits.{edge_of-reverse, name_there, reverse-reverse}
use Rattle.plane_model.proofs.ComponentParts.{component-reverse, component_inside, component_own, component_parts}
use Rattle.rotation_check.specs.Darts.{RotationRows, IsRotation, map_of_rotation, reverse_dart, signed_edge}
use Rattle.rotation_check.proofs.DartLists.{dart_place, signed_there}
use Rattle.rotation_check.proofs.SmallestNext.{all_by, further, not_of}
use Rattle.rotation_check.proofs.Turning.{signed-reverse_dart}
use Rattle.euler_check.specs.Counts.{edge_id, euler_refusal, lesser}
use Rattle.euler_check.proofs.Walking.{own_rows}

-- the component of a dart isn't plane
abbrev pub fails : RotationRows → ℕ → Bool
fails r dart = not (is_plane_component (map_of_rotation r) (signed_edge r.edges dart))

-- of the edges in the first k rows, the dart with the least id of those that fail
pub record IsLeastDart (r : RotationRows) (k dart : ℕ) : Type 0 where
  pub row : ℕ
  pub within : row < k
  pub is : dart ≡ 2 * row
  pub fails_there : fails r dart ≡ true
  pub least : (j : ℕ) → j < k → fails r (2 * j) ≡ true → edge_id r.edges dart ≤ edge_id r.edges (2 * j)

-- the same, or none
abbrev pub LeastTo : RotationRows → ℕ → Option ℕ → Type 0
LeastTo r k None = (j : ℕ) → j < k → fails r (2 * j) ≡ false
LeastTo r k (Some dart) = IsLeastDart r k dart

pub least_none : (r : RotationRows) → LeastTo r 0 None
least_none r j h = absurd (omega arith)

pub least_skip : (r : RotationRows) (k : ℕ) (least : Option ℕ) → fails r (2 * k) ≡ false → LeastTo r k least → LeastTo r (k + 1) least
least_skip r k None h old = further (λ j. fails r (2 * j) ≡ false) k old h
least_skip r k (Some dart) h old =
    let lt = old.within in
    record {
      row = old.row;
      within = omega arith;
      is = old.is;
      fails_there = old.fails_there;
      least = further (λ j. fails r (2 * j) ≡ true → edge_id r.edges dart ≤ edge_id r.edges (2 * j)) k old.least (λ q. absurd (both_ways _ h q));
    }

pub least_next : (r : RotationRows) (k : ℕ) (least : Option ℕ) → fails r (2 * k) ≡ true → LeastTo r k least → LeastTo r (k + 1) (Some (lesser r.edges least (2 * k)))
least_next r k None h old =
    record {
      row = k;
      within = omega arith;
      is = refl;
      fails_there = h;
      least = further (λ j. fails r (2 * j) ≡ true → edge_id r.edges (2 * k) ≤ edge_id r.edges (2 * j)) k (λ j q e. absurd (both_ways _ (old j q) e)) (λ q. omega arith);
    }
least_next r k (Some other) h old = elim (cases_Bool (nat_le (edge_id r.edges other) (edge_id r.edges (2 * k)))) [
  | inl e ↦
      let lt = old.within in
      let le = leb-true (edge_id r.edges other) (edge_id r.edges (2 * k)) e in
      subst (IsLeastDart r (k + 1)) (sym (chosen true e))
      (record {
        row = old.row;
        within = omega arith;
        is = old.is;
        fails_there = old.fails_there;
        least = further (λ j. fails r (2 * j) ≡ true → edge_id r.edges other ≤ edge_id r.edges (2 * j)) k old.least (λ q. le);
      })
  | inr e ↦
      let lt = leb-false (edge_id r.edges other) (edge_id r.edges (2 * k)) e in
      subst (IsLeastDart r (k + 1)) (sym (chosen false e))
      (record {
        row = k;
        within = omega arith;
        is = refl;
        fails_there = h;
        least = further (λ j. fails r (2 * j) ≡ true → edge_id r.edges (2 * k) ≤ edge_id r.edges (2 * j)) k (λ j q f. let b = old.least j q f in omega arith) (λ q. omega arith);
      })
]
  where
    chosen : (b : Bool) → nat_le (edge_id r.edges other) (edge_id r.edges (2 * k)) ≡ b → lesser r.edges (Some other) (2 * k) ≡ (if b then other else 2 * k)
    chosen b e = rw e refl

module _ (r : RotationRows) (is : IsRotation r) where
  rising_signed : is_rising_edges (signed_edges (map_of_rotation r)) ≡ true
  rising_signed = signed_edges_rise (map_of_rotation r) (rising_strictly (map (λ e. e.id) r.edges) is.edges) (rising-all (nat_lt 0) (map (λ e. e.id) r.edges) ∙ list_all-map (nat_lt 0) (λ (e : EdgeRow). e.id) r.edges ∙ is.ids)

  -- a component rises, and so components with the same members are one list
  rising_rounds : (n : ℕ) (d : ℤ) → is_rising_edges (grown_by n (map_of_rotation r) (d ∷ [])) ≡ true
  unfolding sets.grown_by
  rising_rounds zero d = refl
  rising_rounds (suc n) d = rising_filter _ (signed_edges (map_of_rotation r)) rising_signed

  one_component : (d e : ℤ) → has_edge (signed_edges (map_of_rotation r)) d ≡ true → has_edge (component (map_of_rotation r) d) e ≡ true → component (map_of_rotation r) d ≡ component (map_of_rotation r) e
  one_component d e there on =
      let p = component_parts (own_rows r) is.rotation in
      same_rising_edges (component (map_of_rotation r) d) (component (map_of_rotation r) e) (rising_rounds (length (signed_edges (map_of_rotation r))) d) (rising_rounds (length (signed_edges (map_of_rotation r))) e) (λ x. sym (p.same d e there on x))

  same_plane : (d e : ℤ) → has_edge (signed_edges (map_of_rotation r)) d ≡ true → has_edge (component (map_of_rotation r) d) e ≡ true → is_plane_component (map_of_rotation r) d ≡ is_plane_component (map_of_rotation r) e
  same_plane d e there on =
      ap (λ ds. (node_count (map_of_rotation r) ds + ring_count (map_of_rotation r) ds) == (edge_count (map_of_rotation r) ds + 2)) (one_component d e there on)

  -- the dart forward of the row of a signed edge
  record IsForward (d : ℤ) : Type 0 where
    row : ℕ
    within : row < length r.edges
    edge : edge_id r.edges (2 * row) ≡ edge_of d
    alike : is_plane_component (map_of_rotation r) d ≡ is_plane_component (map_of_rotation r) (signed_edge r.edges (2 * row))

  forward_of : (d : ℤ) → has_edge (signed_edges (map_of_rotation r)) d ≡ true → IsForward d
  forward_of d there =
      let k = dart_place (own_rows r) d there in
      let lt : k.0 < 2 * length r.edges = k.1 in
      elim (cases_eq (k.0 % 2) 0) [
        | inl even ↦
            let same : k.0 ≡ 2 * (k.0 / 2) = omega arith in
            let one : d ≡ signed_edge r.edges (2 * (k.0 / 2)) = sym k.2 ∙ ap (signed_edge r.edges) same in
            record { row = k.0 / 2; within = omega arith; edge = ap edge_of (sym one); alike = ap (is_plane_component (map_of_rotation r)) one }
        | inr odd ↦
            let even : (2 * (k.0 / 2)) % 2 ≡ 0 = omega arith in
            let other : reverse_dart (2 * (k.0 / 2)) ≡ k.0 = rw (eq-eqb ((2 * (k.0 / 2)) % 2) 0 even) (let e : 2 * (k.0 / 2) + 1 ≡ k.0 = omega arith in e) in
            let back : d ≡ reverse (signed_edge r.edges (2 * (k.0 / 2))) = sym k.2 ∙ ap (signed_edge r.edges) (sym other) ∙ signed-reverse_dart r.edges (2 * (k.0 / 2)) in
            let forth : reverse d ≡ signed_edge r.edges (2 * (k.0 / 2)) = ap reverse back ∙ reverse-reverse (signed_edge r.edges (2 * (k.0 / 2))) in
            record {
              row = k.0 / 2;
              within = omega arith;
              edge = ap edge_of (sym forth) ∙ edge_of-reverse d;
              alike = same_plane d (reverse d) there (component-reverse (own_rows r) is.rotation d d there ∙ component_own (map_of_rotation r) d there) ∙ ap (is_plane_component (map_of_rotation r)) forth;
            }
      ]

  -- what comes first of one edge is the one forward
  not_first : (d e : ℤ) → is_forward d ≡ true → edge_of d ≤ edge_of e → comes_before e d ≡ false
  not_first d e forward le = rw (le-ltb (edge_of e) (edge_of d) le, forward) (neither (edge_of e == edge_of d) (is_forward e))
    where
      neither : (a b : Bool) → (a && b && false) ≡ false
      neither true true = refl
      neither true false = refl
      neither false b = refl

  module _ (dart : ℕ) (least : IsLeastDart r (length r.edges) dart) where
    d : ℤ
    d = signed_edge r.edges dart

    dart_within : dart < 2 * length r.edges
    dart_within = let lt = least.within in let e = least.is in omega arith

    d_there : has_edge (signed_edges (map_of_rotation r)) (signed_edge r.edges dart) ≡ true
    d_there = signed_there (own_rows r) dart dart_within

    forward : is_forward (signed_edge r.edges dart) ≡ true
    forward =
        let e = least.is in
        let even : dart % 2 ≡ 0 = omega arith in
        rw (eq-eqb (dart % 2) 0 even) refl

    least_edge : (e : ℤ) → has_edge (signed_edges (map_of_rotation r)) e ≡ true → not (is_plane_component (map_of_rotation r) e) ≡ true → edge_of (signed_edge r.edges dart) ≤ edge_of e
    least_edge e there failing =
        let f = forward_of e there in
        let row_fails : fails r (2 * f.row) ≡ true = ap not (sym f.alike) ∙ failing in
        let le = least.least f.row f.within row_fails in
        let same = f.edge in
        omega arith

    own_name : same_edge (signed_edge r.edges dart) (smallest (signed_edge r.edges dart) (component (map_of_rotation r) (signed_edge r.edges dart))) ≡ true
    own_name =
        let c = component (map_of_rotation r) (signed_edge r.edges dart) in
        let s = smallest (signed_edge r.edges dart) c in
        let own = component_own (map_of_rotation r) (signed_edge r.edges dart) d_there in
        let on : has_edge c s ≡ true = (name_there (signed_edges (map_of_rotation r)) (component (map_of_rotation r)) (component_parts (own_rows r) is.rotation) (signed_edge r.edges dart) d_there).1 in
        let s_there = component_inside (own_rows r) is.rotation (signed_edge r.edges dart) s d_there on in
        let s_fails : not (is_plane_component (map_of_rotation r) s) ≡ true = ap not (sym (same_plane (signed_edge r.edges dart) s d_there on)) ∙ least.fails_there in
        let a = not_before s (signed_edge r.edges dart) (not_first (signed_edge r.edges dart) s forward (least_edge s s_there s_fails)) in
        let b = not_before (signed_edge r.edges dart) s ((smallest_least (signed_edge r.edges dart) c).least (signed_edge r.edges dart) (or_left _ _ (same_self (signed_edge r.edges dart))) refl) in
        subst (λ z. same_edge (signed_edge r.edges dart) z ≡ true) (same_rank (signed_edge r.edges dart) s (omega arith)) (same_self (signed_edge r.edges dart))

    found_least : find (λ d. not (is_plane_component (map_of_rotation r) d)) (components (map_of_rotation r)) ≡ Some (signed_edge r.edges dart)
    found_least =
        smallest_found (λ d. not (is_plane_component (map_of_rotation r) d)) (components (map_of_rotation r)) (rising_filter _ (signed_edges (map_of_rotation r)) rising_signed) (signed_edge r.edges dart)
        (record {
          there = in_filter same_edges (λ e. same_edge e (smallest e (component (map_of_rotation r) e))) (signed_edges (map_of_rotation r)) (signed_edge r.edges dart) own_name d_there;
          passes = least.fails_there;
          least = λ e on failing.
              let there = (from_filter same_edges (λ e. same_edge e (smallest e (component (map_of_rotation r) e))) (signed_edges (map_of_rotation r)) e on).1 in
              not_first (signed_edge r.edges dart) e forward (least_edge e there failing);
        })

  found_none : ((j : ℕ) → j < length r.edges → fails r (2 * j) ≡ false) → find (λ d. not (is_plane_component (map_of_rotation r) d)) (components (map_of_rotation r)) ≡ None
  found_none all =
      none_found (λ d. not (is_plane_component (map_of_rotation r) d)) (components (map_of_rotation r))
      (all_by (λ d. not (not (is_plane_component (map_of_rotation r) d))) (components (map_of_rotation r)) (λ e on.
      let there = (from_filter same_edges (λ e. same_edge e (smallest e (component (map_of_rotation r) e))) (signed_edges (map_of_rotation r)) e on).1 in
      let f = forward_of e there in
      not_of (not (is_plane_component (map_of_rotation r) e)) (ap not f.alike ∙ all f.row f.within)))

  -- what the loop ends with
  pub not_plane-none : (k : ℕ) (least : Option ℕ) → k ≡ length r.edges → least ≡ None → LeastTo r k least → not_plane (map_of_rotation r) ≡ None
  not_plane-none k least whole none all =
      ap (option_map (euler_refusal (map_of_rotation r))) (found_none (subst (LeastTo r (length r.edges)) none (subst (λ n. LeastTo r n least) whole all)))

  pub not_plane-some : (k : ℕ) (least : Option ℕ) (dart : ℕ) → k ≡ length r.edges → least ≡ Some dart → LeastTo r k least → not_plane (map_of_rotation r) ≡ Some (euler_refusal (map_of_rotation r) (signed_edge r.edges dart))
  not_plane-some k least dart whole some all =
      ap (option_map (euler_refusal (map_of_rotation r))) (found_least dart (subst (LeastTo r (length r.edges)) some (subst (λ n. LeastTo r n least) whole all)))
