-- Rings that are joined edge by edge: two are in one set exactly where they are in one component.
use Rattle.std.proofs.Common.{◌≡◌, ℕ, zero, suc, ◌+◌, ◌-◌, ◌*◌, ◌/◌, ◌%◌, ◌<◌, ◌⊎◌, inl, inr, ℤ, Bool, true, false, ◌&&◌, ◌||◌, ◌==◌, List, length, get_or, refl, sym, ap, ◌∙◌, subst, arith, eq-eqb}
use Rattle.std.specs.Prelude.{◌↔◌}
use Rattle.std.specs.List.{range_with_len}
use Rattle.std.proofs.lemmas.Bool.{and_from, and_parts, cases_eq, cases_lt, eqb-true, ne_eqb, or_cases, or_left, or_right, both_ways}
use Rattle.std.proofs.lemmas.List.FromFn.{length-range_with_len, get_or-range_with_len}
use Rattle.disjoint_sets.specs.Sets.{AreSets, joined}
use Rattle.disjoint_sets.proofs.Joining.{joined_length, joined_same}
use Rattle.topo_base.specs.SignedEdge.{reverse, same_edge}
use Rattle.orbits.proofs.Lists.{among}
use Rattle.orbits.proofs.Orbits.{orbit_own, orbit_step}
use Rattle.plane_model.specs.declared.rows.EdgeRow.{EdgeRow}
use Rattle.plane_model.specs.Sets.{has_edge}
use Rattle.plane_model.specs.PlaneMap.{next, ring, signed_edges, turn}
use Rattle.plane_model.specs.Component.{component}
use Rattle.plane_model.proofs.SetLaws.{same_is, same_self, component-least, same_edges}
use Rattle.plane_model.proofs.ComponentParts.{component_own, component_back, component_parts, component-reverse, ring_in_component}
use Rattle.plane_model.proofs.RotationOrbits.{next_permutes}
use Rattle.rotation_check.specs.Darts.{RotationRows, IsRotation, map_of_rotation, reverse_dart, signed_edge}
use Rattle.rotation_check.proofs.DartLists.{dart_place}
use Rattle.rotation_check.proofs.Turning.{reverse-within, signed-reverse_dart}
use Rattle.euler_check.specs.Joined.{AreJoined, least_ring}
use Rattle.euler_check.specs.Numbers.{Numbers, ArePartNumbers}
use Rattle.euler_check.proofs.Walking.{own_rows, there, one_dart}

-- whether a signed edge is that of one of the first n darts that passes
passes : List EdgeRow → (ℕ → Bool) → ℕ → ℤ → Bool
passes edges p zero x = false
passes edges p (suc n) x = (same_edge x (signed_edge edges n) && p n) || passes edges p n x

passes_into : (edges : List EdgeRow) (p : ℕ → Bool) (n d : ℕ) → d < n → p d ≡ true → passes edges p n (signed_edge edges d) ≡ true
unfolding passes
passes_into edges p zero d h on = absurd (omega arith)
passes_into edges p (suc n) d h on = elim (cases_eq d n) [
  | inl e ↦
      let one : same_edge (signed_edge edges d) (signed_edge edges n) ≡ true = subst (λ k. same_edge (signed_edge edges d) (signed_edge edges k) ≡ true) e (same_self (signed_edge edges d)) in
      or_left _ _ (and_from _ _ one (subst (λ k. p k ≡ true) e on))
  | inr ne ↦ or_right _ _ (passes_into edges p n d (omega arith) on)
]

passes_from : (edges : List EdgeRow) (p : ℕ → Bool) (n : ℕ) (x : ℤ) → passes edges p n x ≡ true → (d : ℕ) × (d < n) × (x ≡ signed_edge edges d) × (p d ≡ true)
unfolding passes
passes_from edges p zero x h = absurd (both_ways false refl h)
passes_from edges p (suc n) x h = elim (or_cases (same_edge x (signed_edge edges n) && p n) (passes edges p n x) h) [
  | inl here ↦ let both = and_parts (same_edge x (signed_edge edges n)) (p n) here in (n, omega arith, same_is x (signed_edge edges n) both.0, both.1)
  | inr more ↦ let d = passes_from edges p n x more in let d1 : d.0 < n = d.1 in (d.0, omega arith, d.2, d.3)
]

reverse_even : (i : ℕ) → reverse_dart (2 * i) ≡ 2 * i + 1
reverse_even i = let e : (2 * i) % 2 ≡ 0 = omega arith in rw (eq-eqb ((2 * i) % 2) 0 e) refl

-- what the two darts of each edge have alike, a dart and its reverse have alike
of_both : (g : ℕ → ℕ) (n : ℕ) → ((i : ℕ) → i < n → g (2 * i) ≡ g (2 * i + 1)) → (d : ℕ) → d < 2 * n → g (reverse_dart d) ≡ g d
of_both g n rows d h =
    let low : d / 2 < n = omega arith in
    let row = rows (d / 2) low in
    elim (cases_eq (d % 2) 0) [
      | inl e ↦
          let here : 2 * (d / 2) ≡ d = omega arith in
          let back : 2 * (d / 2) + 1 ≡ d + 1 = omega arith in
          rw (eq-eqb (d % 2) 0 e) (sym (sym (ap g here) ∙ row ∙ ap g back))
      | inr ne ↦
          let here : 2 * (d / 2) + 1 ≡ d = omega arith in
          let back : 2 * (d / 2) ≡ d - 1 = omega arith in
          rw (ne_eqb (d % 2) 0 ne) (sym (ap g back) ∙ row ∙ ap g here)
    ]

-- the rings of the first k rows are joined, and rings in one set are in one component
pub record AreJoining (r : RotationRows) (rings : Numbers) (k : ℕ) (leasts : List ℕ) : Type 0 where
  pub sets : AreSets leasts
  pub size : length leasts ≡ rings.count
  pub rows : (i : ℕ) → i < k → least_ring rings leasts (2 * i) ≡ least_ring rings leasts (2 * i + 1)
  pub within : (d e : ℕ) → d < 2 * length r.edges → e < 2 * length r.edges → least_ring rings leasts d ≡ least_ring rings leasts e
      → has_edge (component (map_of_rotation r) (signed_edge r.edges d)) (signed_edge r.edges e) ≡ true

-- two have one least after the sets of a and b are joined exactly where they had one, or one was with a and the other
-- with b
abbrev pub JoinsLeasts : List ℕ → List ℕ → ℕ → ℕ → Type 0
JoinsLeasts old new a b =
    (c d : ℕ) → c < length old → d < length old → (get_or new c 0 ≡ get_or new d 0)
    ↔ ((get_or old c 0 ≡ get_or old d 0) ⊎ (((get_or old c 0 ≡ get_or old a 0) × (get_or old d 0 ≡ get_or old b 0)) ⊎ ((get_or old c 0 ≡ get_or old b 0) × (get_or old d 0 ≡ get_or old a 0))))

module _ (r : RotationRows) (is : IsRotation r) (rings : Numbers) (are : ArePartNumbers r.edges (ring (map_of_rotation r)) rings) where
  -- one component: of a dart with itself, on a ring, of an edge's two darts, and over a third dart
  own : (d : ℕ) → d < 2 * length r.edges → has_edge (component (map_of_rotation r) (signed_edge r.edges d)) (signed_edge r.edges d) ≡ true
  own d h = component_own (map_of_rotation r) (signed_edge r.edges d) (there r is d h)

  on_ring : (d e : ℕ) → d < 2 * length r.edges → e < 2 * length r.edges → get_or rings.of_darts d 0 ≡ get_or rings.of_darts e 0
      → has_edge (component (map_of_rotation r) (signed_edge r.edges d)) (signed_edge r.edges e) ≡ true
  on_ring d e h q one = ring_in_component (own_rows r) is.rotation (signed_edge r.edges d) (signed_edge r.edges d) (signed_edge r.edges e) (there r is d h) (own d h) ((are.same d e h q).0 one)

  across : (i : ℕ) → i < length r.edges → has_edge (component (map_of_rotation r) (signed_edge r.edges (2 * i))) (signed_edge r.edges (2 * i + 1)) ≡ true
  across i h =
      let q : 2 * i < 2 * length r.edges = omega arith in
      let back : signed_edge r.edges (2 * i + 1) ≡ reverse (signed_edge r.edges (2 * i)) = ap (signed_edge r.edges) (sym (reverse_even i)) ∙ signed-reverse_dart r.edges (2 * i) in
      ap (has_edge (component (map_of_rotation r) (signed_edge r.edges (2 * i)))) back
      ∙ component-reverse (own_rows r) is.rotation (signed_edge r.edges (2 * i)) (signed_edge r.edges (2 * i)) (there r is (2 * i) q) ∙ own (2 * i) q

  over : (d e f : ℕ) → d < 2 * length r.edges → has_edge (component (map_of_rotation r) (signed_edge r.edges d)) (signed_edge r.edges e) ≡ true
      → has_edge (component (map_of_rotation r) (signed_edge r.edges e)) (signed_edge r.edges f) ≡ true → has_edge (component (map_of_rotation r) (signed_edge r.edges d)) (signed_edge r.edges f) ≡ true
  over d e f h first second = sym ((component_parts (own_rows r) is.rotation).same (signed_edge r.edges d) (signed_edge r.edges e) (there r is d h) first (signed_edge r.edges f)) ∙ second

  pub joining_none : (n : ℕ) (leasts : List ℕ) → n ≡ rings.count → leasts ≡ range_with_len 0 n → AreSets leasts → AreJoining r rings 0 leasts
  joining_none n leasts many alone sets =
      let size : length leasts ≡ rings.count = ap length alone ∙ length-range_with_len 0 n ∙ many in
      let itself : (a : ℕ) → a < rings.count → get_or leasts a 0 ≡ a = λ a lt. (let at = get_or-range_with_len 0 n a 0 (omega arith) in ap (λ xs. get_or xs a 0) alone ∙ omega arith) in
      record {
        sets = sets;
        size = size;
        rows = λ i lt. absurd (omega arith);
        within = λ d e h q same. on_ring d e h q (sym (itself _ (are.below d h)) ∙ same ∙ itself _ (are.below e q));
      }

  module _ (k : ℕ) (old new : List ℕ) (h : k < length r.edges) (before : AreJoining r rings k old) (sets : AreSets new) (size : length new ≡ length old) (joins : JoinsLeasts old new (get_or rings.of_darts (2 * k) 0) (get_or rings.of_darts (2 * k + 1) 0)) where
    below : (d : ℕ) → d < 2 * length r.edges → get_or rings.of_darts d 0 < length old
    below d q = let a = are.below d q in let b = before.size in omega arith

    one : 2 * k < 2 * length r.edges
    one = omega arith

    other : 2 * k + 1 < 2 * length r.edges
    other = omega arith

    pub joining_next : AreJoining r rings (k + 1) new
    joining_next = record {
      sets = sets;
      size = size ∙ before.size;
      rows = λ i lt. elim (cases_lt i k) [
        | inl low ↦ (joins _ _ (below (2 * i) (omega arith)) (below (2 * i + 1) (omega arith))).1 (inl (before.rows i low))
        | inr ge ↦
            let is_k : k ≡ i = omega arith in
            subst (λ j. least_ring rings new (2 * j) ≡ least_ring rings new (2 * j + 1)) is_k ((joins _ _ (below (2 * k) one) (below (2 * k + 1) other)).1 (inr (inl (refl, refl))))
      ];
      within = λ d e q l same. elim ((joins _ _ (below d q) (below e l)).0 same) [
        | inl had ↦ before.within d e q l had
        | inr either ↦ elim either [
          | inl there ↦ over d (2 * k) e q (before.within d (2 * k) q one there.0) (over (2 * k) (2 * k + 1) e one (across k h) (before.within (2 * k + 1) e other l (sym there.1)))
          | inr back ↦
              let across_back = component_back (own_rows r) is.rotation (signed_edge r.edges (2 * k)) (signed_edge r.edges (2 * k + 1)) (there r is (2 * k) one) (across k h) in
              over d (2 * k + 1) e q (before.within d (2 * k + 1) q other back.0) (over (2 * k + 1) (2 * k) e other across_back (before.within (2 * k) e one l (sym back.1)))
        ]
      ];
    }

  pub joined_next : (k a b : ℕ) (old new : List ℕ) → k < length r.edges → AreJoining r rings k old → a ≡ get_or rings.of_darts (2 * k) 0 → b ≡ get_or rings.of_darts (2 * k + 1) 0 → new ≡ joined old a b → AreSets new → AreJoining r rings (k + 1) new
  joined_next k a b old new h before a_is b_is new_is sets =
      let joins : JoinsLeasts old (joined old a b) a b = λ c d lt le. joined_same old a b c d lt le in
      joining_next k old new h before sets (ap length new_is ∙ joined_length old a b)
      (subst (λ x. JoinsLeasts old new x (get_or rings.of_darts (2 * k + 1) 0)) a_is (subst (λ y. JoinsLeasts old new a y) b_is (subst (λ n. JoinsLeasts old n a b) (sym new_is) joins)))

  module _ (leasts : List ℕ) (all : AreJoining r rings (length r.edges) leasts) where
    -- a dart and its reverse have one least ring
    reversed : (d : ℕ) → d < 2 * length r.edges → least_ring rings leasts (reverse_dart d) ≡ least_ring rings leasts d
    reversed d h = of_both (λ k. least_ring rings leasts k) (length r.edges) all.rows d h

    -- and so have a dart and its next
    followed : (d e : ℕ) → d < 2 * length r.edges → e < 2 * length r.edges → signed_edge r.edges e ≡ next (map_of_rotation r) (signed_edge r.edges d) → least_ring rings leasts d ≡ least_ring rings leasts e
    followed d e h q step =
        let us = signed_edges (map_of_rotation r) in
        let on : has_edge (ring (map_of_rotation r) (signed_edge r.edges d)) (signed_edge r.edges e) ≡ true = subst (λ z. has_edge (ring (map_of_rotation r) (signed_edge r.edges d)) z ≡ true) (sym step)
        (orbit_step same_edges us (next (map_of_rotation r)) (next_permutes (own_rows r) is.rotation) (signed_edge r.edges d) (signed_edge r.edges d) (there r is d h) (orbit_own same_edges us (next (map_of_rotation r)) (signed_edge r.edges d) (there r is d h))) in
        ap (λ k. get_or leasts k 0) ((are.same d e h q).1 on)

    -- whether the ring of a signed edge has this least one
    has_least : ℕ → ℤ → Bool
    has_least least x = passes r.edges (λ k. least_ring rings leasts k == least) (2 * length r.edges) x

    closed : (least : ℕ) (x : ℤ) → has_least least x ≡ true → (has_least least (reverse x) ≡ true) × (has_least least (turn (map_of_rotation r) x) ≡ true)
    unfolding has_least
    closed least x on =
        let p : ℕ → Bool = λ k. least_ring rings leasts k == least in
        let d = passes_from r.edges p (2 * length r.edges) x on in
        let here : least_ring rings leasts d.0 ≡ least = eqb-true _ least d.3 in
        let back = reverse-within r.edges d.0 d.1 in
        let back_is : reverse x ≡ signed_edge r.edges (reverse_dart d.0) = ap reverse d.2 ∙ sym (signed-reverse_dart r.edges d.0) in
        let t = dart_place (own_rows r) (next (map_of_rotation r) (signed_edge r.edges (reverse_dart d.0))) ((next_permutes (own_rows r) is.rotation).stays (signed_edge r.edges (reverse_dart d.0)) (there r is (reverse_dart d.0) back)) in
        let turn_is : turn (map_of_rotation r) x ≡ signed_edge r.edges t.0 = ap (next (map_of_rotation r)) back_is ∙ sym t.2 in
        let back_has : least_ring rings leasts (reverse_dart d.0) ≡ least = reversed d.0 d.1 ∙ here in
        let turn_has : least_ring rings leasts t.0 ≡ least = sym (followed (reverse_dart d.0) t.0 back t.1 t.2) ∙ back_has in (
          subst (λ z. has_least least z ≡ true) (sym back_is) (passes_into r.edges p (2 * length r.edges) (reverse_dart d.0) back (eq-eqb _ least back_has)),
          subst (λ z. has_least least z ≡ true) (sym turn_is) (passes_into r.edges p (2 * length r.edges) t.0 t.1 (eq-eqb _ least turn_has)),
        )

    -- darts of one component have one least ring
    connected : (d e : ℕ) → d < 2 * length r.edges → e < 2 * length r.edges → has_edge (component (map_of_rotation r) (signed_edge r.edges d)) (signed_edge r.edges e) ≡ true → least_ring rings leasts d ≡ least_ring rings leasts e
    unfolding has_least
    connected d e h q on =
        let least = least_ring rings leasts d in
        let p : ℕ → Bool = λ k. least_ring rings leasts k == least in
        let begins : has_least least (signed_edge r.edges d) ≡ true = passes_into r.edges p (2 * length r.edges) d h (eq-eqb least least refl) in
        let has_it : has_least least (signed_edge r.edges e) ≡ true = among same_edges (has_least least) (component (map_of_rotation r) (signed_edge r.edges d)) (signed_edge r.edges e)
        (component-least (map_of_rotation r) (has_least least) (closed least) (signed_edge r.edges d) begins) on in
        let f = passes_from r.edges p (2 * length r.edges) (signed_edge r.edges e) has_it in
        sym (eqb-true _ least f.3) ∙ ap (λ k. least_ring rings leasts k) (sym (one_dart r is e f.0 q f.1 f.2))

    pub joining_done : AreJoined r rings leasts
    joining_done = record { sets = all.sets; size = all.size; same = λ d e h q. (λ one. all.within d e h q one, λ on. connected d e h q on) }
