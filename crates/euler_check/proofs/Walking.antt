-- A walk round a ring that gives its darts a number.
use Rattle.std.proofs.Common.{◌≡◌, ℕ, suc, ◌+◌, ◌-◌, ◌*◌, ◌<◌, ◌≤◌, ◌⊎◌, inl, inr, ℤ, true, false, List, [], length, refl, sym, ap, ◌∙◌, subst, arith, Option, Some, None}
use Rattle.std.proofs.Math.ListN.{set, length-set}
use Rattle.std.proofs.lemmas.Bool.{cases_Bool, cases_eq, or_cases, both_ways}
use Rattle.std.proofs.lemmas.List.{get_or-set_same, get_or-set_other}
use Rattle.topo_base.specs.SignedEdge.{same_edge}
use Rattle.orbits.specs.Walks as walks
use Rattle.orbits.proofs.Orbits.{orbit_own, orbit_step}
use Rattle.plane_model.specs.Rows.{Rows}
use Rattle.plane_model.specs.Sets.{has_edge}
use Rattle.plane_model.specs.PlaneMap.{signed_edges, next, ring, until_return}
use Rattle.plane_model.proofs.SetLaws.{same_is, same_self, same_edges}
use Rattle.plane_model.proofs.RotationOrbits.{next_permutes}
use Rattle.rotation_check.specs.Darts.{RotationRows, IsRotation, map_of_rotation, signed_edge}
use Rattle.rotation_check.proofs.DartLists.{signed_there}
use Rattle.rotation_check.proofs.EndLemmas.{one_signed_edge}
use Rattle.rotation_check.proofs.RoundWalk.{length-signed}
use Rattle.euler_check.specs.Marks.{number_at, DartsGetNumber}

-- the rows of a rotation as tables
abbrev pub own_rows : RotationRows → Rows
own_rows r = record { nodes = r.nodes; edges = r.edges; faces = []; regions = []; members = [] }

-- a signed edge of a walk is its beginning, or behind it
on_walk : (n : ℕ) (step : ℤ → ℤ) (first d x : ℤ) → has_edge (until_return (suc n) step first d) x ≡ true → (x ≡ d) ⊎ ((same_edge (step d) first ≡ false) × (has_edge (until_return n step first (step d)) x ≡ true))
unfolding walks.until_return
on_walk n step first d x h = elim (or_cases (same_edge x d) _ h) [
  | inl here ↦ inl (same_is x d here)
  | inr more ↦ elim (cases_Bool (same_edge (step d) first)) [
    | inl back ↦ absurd (both_ways false refl (rw back at more))
    | inr further ↦ inr (further, rw further at more)
  ]
]

none_on : (step : ℤ → ℤ) (first d x : ℤ) → has_edge (until_return 0 step first d) x ≡ true → ⊥
unfolding walks.until_return
none_on step first d x h = both_ways false refl h

-- darts of the ring that the walk has still to come to, or that have the number
pub record IsMarking (r : RotationRows) (first number n dart : ℕ) (old new : List (Option ℕ)) : Type 0 where
  pub within : dart < 2 * length r.edges
  pub size : length new ≡ length old
  pub on : has_edge (ring (map_of_rotation r) (signed_edge r.edges first)) (signed_edge r.edges dart) ≡ true
  pub left : (d : ℕ) → d < 2 * length r.edges → has_edge (ring (map_of_rotation r) (signed_edge r.edges first)) (signed_edge r.edges d) ≡ true
      → (has_edge (until_return n (next (map_of_rotation r)) (signed_edge r.edges first) (signed_edge r.edges dart)) (signed_edge r.edges d) ≡ true) ⊎ (number_at new d ≡ Some number)
  pub outside : (d : ℕ) → d < 2 * length r.edges → has_edge (ring (map_of_rotation r) (signed_edge r.edges first)) (signed_edge r.edges d) ≡ false → number_at new d ≡ number_at old d

module _ (r : RotationRows) (is : IsRotation r) where
  pub one_dart : (j k : ℕ) → j < 2 * length r.edges → k < 2 * length r.edges → signed_edge r.edges j ≡ signed_edge r.edges k → j ≡ k
  one_dart j k h q e = one_signed_edge r.edges is.ids is.edges j k h q e

  pub there : (k : ℕ) → k < 2 * length r.edges → has_edge (signed_edges (map_of_rotation r)) (signed_edge r.edges k) ≡ true
  there k h = signed_there (own_rows r) k h

  pub marking_first : (first number : ℕ) (old : List (Option ℕ)) → first < 2 * length r.edges → IsMarking r first number (2 * length r.edges - 0) first old old
  marking_first first number old h =
      let fuel : length (signed_edges (map_of_rotation r)) ≡ 2 * length r.edges - 0 = (let e = length-signed (own_rows r) in omega arith) in
      record {
        within = h;
        size = refl;
        on = orbit_own same_edges (signed_edges (map_of_rotation r)) (next (map_of_rotation r)) (signed_edge r.edges first) (there first h);
        left = λ d q on. inl (subst (λ n. has_edge (until_return n (next (map_of_rotation r)) (signed_edge r.edges first) (signed_edge r.edges first)) (signed_edge r.edges d) ≡ true) fuel on);
        outside = λ d q off. refl;
      }

  -- after the number is given to the dart that the walk is at
  numbered : (first number n dart d : ℕ) (old new : List (Option ℕ)) → length old ≡ 2 * length r.edges → IsMarking r first number (suc n) dart old new → d < 2 * length r.edges
      → has_edge (ring (map_of_rotation r) (signed_edge r.edges first)) (signed_edge r.edges d) ≡ true
      → ((same_edge (next (map_of_rotation r) (signed_edge r.edges dart)) (signed_edge r.edges first) ≡ false)
      × (has_edge (until_return n (next (map_of_rotation r)) (signed_edge r.edges first) (next (map_of_rotation r) (signed_edge r.edges dart))) (signed_edge r.edges d) ≡ true))
      ⊎ (number_at (set new dart (Some number)) d ≡ Some number)
  numbered first number n dart d old new size m q on =
      let size_of = m.size in
      let within = m.within in
      let here : d ≡ dart → number_at (set new dart (Some number)) d ≡ Some number = λ e. subst (λ x. number_at (set new dart (Some number)) x ≡ Some number) (sym e) (get_or-set_same new dart (Some number) None (omega arith)) in
      elim (m.left d q on) [
        | inl more ↦ elim (on_walk n (next (map_of_rotation r)) (signed_edge r.edges first) (signed_edge r.edges dart) (signed_edge r.edges d) more) [
          | inl same ↦ inr (here (one_dart d dart q m.within same))
          | inr further ↦ inl further
        ]
        | inr has ↦ elim (cases_eq d dart) [
          | inl e ↦ inr (here e)
          | inr ne ↦ inr (get_or-set_other new dart d (Some number) None ne ∙ has)
        ]
      ]

  others : (first number n dart d : ℕ) (old new : List (Option ℕ)) → IsMarking r first number n dart old new → d < 2 * length r.edges
      → has_edge (ring (map_of_rotation r) (signed_edge r.edges first)) (signed_edge r.edges d) ≡ false → number_at (set new dart (Some number)) d ≡ number_at old d
  others first number n dart d old new m q off =
      let ne : d ≡ dart → ⊥ = λ e. both_ways _ off (subst (λ x. has_edge (ring (map_of_rotation r) (signed_edge r.edges first)) (signed_edge r.edges x) ≡ true) (sym e) m.on) in
      get_or-set_other new dart d (Some number) None ne ∙ m.outside d q off

  pub marking_next : (first number i dart after : ℕ) (old new : List (Option ℕ)) → length old ≡ 2 * length r.edges → first < 2 * length r.edges → i < 2 * length r.edges → IsMarking r first number (2 * length r.edges - i) dart old new
      → after < 2 * length r.edges → signed_edge r.edges after ≡ next (map_of_rotation r) (signed_edge r.edges dart)
      → IsMarking r first number (2 * length r.edges - (i + 1)) after old (set new dart (Some number))
  marking_next first number i dart after old new size h lt m within step =
      let more : 2 * length r.edges - i ≡ suc (2 * length r.edges - (i + 1)) = omega arith in
      let m' = subst (λ n. IsMarking r first number n dart old new) more m in
      record {
        within = within;
        size = length-set new dart (Some number) ∙ m.size;
        on = subst (λ x. has_edge (ring (map_of_rotation r) (signed_edge r.edges first)) x ≡ true) (sym step)
            (orbit_step same_edges (signed_edges (map_of_rotation r)) (next (map_of_rotation r)) (next_permutes (own_rows r) is.rotation) (signed_edge r.edges first) (signed_edge r.edges dart) (there first h) m.on);
        left = λ d q on. elim (numbered first number (2 * length r.edges - (i + 1)) dart d old new size m' q on) [
          | inl further ↦ inl (subst (λ x. has_edge (until_return (2 * length r.edges - (i + 1)) (next (map_of_rotation r)) (signed_edge r.edges first) x) (signed_edge r.edges d) ≡ true) (sym step) further.1)
          | inr has ↦ inr has
        ];
        outside = λ d q off. others first number (2 * length r.edges - i) dart d old new m q off;
      }

  -- where the walk comes back, all have the number
  pub marking_back : (first number i dart after : ℕ) (old new : List (Option ℕ)) → length old ≡ 2 * length r.edges → i < 2 * length r.edges → IsMarking r first number (2 * length r.edges - i) dart old new
      → signed_edge r.edges after ≡ next (map_of_rotation r) (signed_edge r.edges dart) → after ≡ first
      → DartsGetNumber r.edges (ring (map_of_rotation r) (signed_edge r.edges first)) number old (set new dart (Some number))
  marking_back first number i dart after old new size lt m step back =
      let more : 2 * length r.edges - i ≡ suc (2 * length r.edges - (i + 1)) = omega arith in
      let m' = subst (λ n. IsMarking r first number n dart old new) more m in
      let returned : same_edge (next (map_of_rotation r) (signed_edge r.edges dart)) (signed_edge r.edges first) ≡ true =
      subst (λ x. same_edge x (signed_edge r.edges first) ≡ true) (ap (signed_edge r.edges) (sym back) ∙ step) (same_self (signed_edge r.edges first)) in
      record {
        size = length-set new dart (Some number) ∙ m.size;
        inside = λ d q on. elim (numbered first number (2 * length r.edges - (i + 1)) dart d old new size m' q on) [
          | inl further ↦ absurd (both_ways _ further.0 returned)
          | inr has ↦ has
        ];
        outside = λ d q off. others first number (2 * length r.edges - i) dart d old new m q off;
      }

  -- and after as many steps as there are darts
  pub marking_end : (first number i dart : ℕ) (old new : List (Option ℕ)) → 2 * length r.edges ≤ i → IsMarking r first number (2 * length r.edges - i) dart old new
      → DartsGetNumber r.edges (ring (map_of_rotation r) (signed_edge r.edges first)) number old new
  marking_end first number i dart old new all m =
      let none : 2 * length r.edges - i ≡ 0 = omega arith in
      record {
        size = m.size;
        inside = λ d q on. elim (m.left d q on) [
          | inl more ↦ absurd (none_on (next (map_of_rotation r)) (signed_edge r.edges first) (signed_edge r.edges dart) (signed_edge r.edges d)
              (subst (λ n. has_edge (until_return n (next (map_of_rotation r)) (signed_edge r.edges first) (signed_edge r.edges dart)) (signed_edge r.edges d) ≡ true) none more))
          | inr has ↦ has
        ];
        outside = λ d q off. m.outside d q off;
      }
