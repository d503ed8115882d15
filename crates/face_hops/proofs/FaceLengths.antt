-- Faces that differ have together no more signed edges than there are.
use Rattle.std.specs.Prelude.{flat_map}
use Rattle.std.proofs.Common.{◌≡◌, ℕ, suc, ℤ, ◌+◌, ◌≤◌, inl, inr, Bool, true, false, not, ◌&&◌, ◌==◌, if◌then◌else◌, List, [], ◌∷◌, ◌++◌, filter, length, refl, sym, ap, ◌∙◌, subst, arith, Option, Some, None}
use Rattle.std.proofs.lemmas.Bool.{cases_Bool, eqb-true, eq-eqb, and_from, and_parts, both_ways, false_from_ne_true, not-true, or_left, or_right}
use Rattle.topo_base.specs.SignedEdge.{same_edge}
use Rattle.orbits.proofs.Lists.{in_filter, from_filter, in_either, apart_kept, pigeon}
use Rattle.orbits.proofs.Orbits.{orbit_apart}
use Rattle.plane_model.specs.Rows.{Rows}
use Rattle.plane_model.specs.Sets.{has, has_edge, is_distinct, is_distinct_edges}
use Rattle.plane_model.specs.PlaneMap.{PlaneMap, map_of, next, signed_edges, side, ring, rings}
use Rattle.plane_model.specs.Faces.{is_placed, is_outer}
use Rattle.plane_model.specs.Lists.{holes, shell, ring_if_some, face_edges}
use Rattle.plane_model.proofs.SetLaws.{same_edges, same_self}
use Rattle.plane_model.proofs.RotationOrbits.{next_permutes}
use Rattle.plane_model.proofs.Sums.{from_flat}
use Rattle.placement_laws.specs.Placing.{IsLabelledRotation}
use Rattle.placement_laws.proofs.Parts.{HasParts, parts_of, ring_name, ring_name-same, ring_alike, rings-one, rings-signed, rings-apart}
use Rattle.face_hops.specs.Prices.{along}
use Rattle.face_hops.proofs.Beside.{found, of_face}

-- two lists that share nothing
distinct_both : (xs ys : List ℤ) → is_distinct_edges xs ≡ true → is_distinct_edges ys ≡ true → ((d : ℤ) → has_edge xs d ≡ true → has_edge ys d ≡ true → ⊥) → is_distinct_edges (xs ++ ys) ≡ true
distinct_both [] ys a b apart = b
distinct_both (x ∷ xs) ys a b apart =
    let parts = and_parts (not (has_edge xs x)) (is_distinct_edges xs) a in
    let new : has_edge (xs ++ ys) x ≡ false
    = false_from_ne_true (has_edge (xs ++ ys) x) (λ t. elim (in_either same_edges xs ys x t) [
      | inl front ↦ both_ways (has_edge xs x) (not-true _ parts.0) front
      | inr back ↦ apart x (or_left (same_edge x x) (has_edge xs x) (same_self x)) back
    ]) in
    and_from (not (has_edge (xs ++ ys) x)) (is_distinct_edges (xs ++ ys)) (rw new refl) (distinct_both xs ys parts.1 b (λ d on back. apart d (or_right (same_edge d x) (has_edge xs d) on) back))

-- signed edges by a number that each has: of those with different numbers there are no more than all

abbrev at_number : (ℤ → ℕ) → ℕ → List ℤ → List ℤ
at_number g f ds = filter (λ d. g d == f) ds

abbrev numbered : (ℤ → ℕ) → List ℤ → List ℕ → ℕ
numbered g ds [] = 0
numbered g ds (f ∷ fs) = length (at_number g f ds) + numbered g ds fs

abbrev without : (ℤ → ℕ) → ℕ → List ℤ → List ℤ
without g f ds = filter (λ d. not (g d == f)) ds

split : (g : ℤ → ℕ) (f : ℕ) (ds : List ℤ) → length (at_number g f ds) + length (without g f ds) ≡ length ds
split g f [] = refl
split g f (d ∷ ds) = let more = split g f ds in elim (cases_Bool (g d == f)) [ inl e ↦ rw e (omega (arith, more)) | inr e ↦ rw e (omega (arith, more)) ]

other : (g : ℤ → ℕ) (f k : ℕ) (ds : List ℤ) → (k == f) ≡ false → length (at_number g k (without g f ds)) ≡ length (at_number g k ds)
other g f k [] off = refl
other g f k (d ∷ ds) off = elim (cases_Bool (g d == f)) [
  | inl e ↦
      let is : (g d == k) ≡ false = false_from_ne_true (g d == k) (λ t. both_ways (k == f) off (eq-eqb k f (sym (eqb-true (g d) k t) ∙ eqb-true (g d) f e))) in
      rw (e, is) (other g f k ds off)
  | inr e ↦ elim (cases_Bool (g d == k)) [
    | inl is ↦ rw (e, is) (ap suc (other g f k ds off))
    | inr differs ↦ rw (e, differs) (other g f k ds off)
  ]
]

others : (g : ℤ → ℕ) (f : ℕ) (ds : List ℤ) (fs : List ℕ) → has fs f ≡ false → numbered g (without g f ds) fs ≡ numbered g ds fs
others g f ds [] off = refl
others g f ds (k ∷ fs) off = elim (cases_Bool (f == k)) [
  | inl e ↦ absurd (both_ways (has (k ∷ fs) f) off (or_left (f == k) (has fs f) e))
  | inr e ↦
      let more : has fs f ≡ false = false_from_ne_true (has fs f) (λ t. both_ways (has (k ∷ fs) f) off (or_right (f == k) (has fs f) t)) in
      let differs : (k == f) ≡ false = false_from_ne_true (k == f) (λ t. both_ways (f == k) e (eq-eqb f k (sym (eqb-true k f t)))) in
      let one = other g f k ds differs in
      let rest = others g f ds fs more in
      omega (arith, one, rest)
]

few_numbered : (g : ℤ → ℕ) (fs : List ℕ) (ds : List ℤ) → is_distinct fs ≡ true → numbered g ds fs ≤ length ds
few_numbered g [] ds apart = omega arith
few_numbered g (f ∷ fs) ds apart =
    let parts = and_parts (not (has fs f)) (is_distinct fs) apart in
    let more = few_numbered g fs (without g f ds) parts.1 in
    let same = others g f ds fs (not-true _ parts.0) in
    let all = split g f ds in
    omega (arith, more, same, all)

module _ (t : Rows) (h : IsLabelledRotation t) (settled : is_placed (map_of t) ≡ true) where
  abbrev m : PlaneMap
  m = map_of t

  parts : HasParts m
  parts = parts_of t h

  ring_apart : (r : ℤ) → has_edge (rings m) r ≡ true → is_distinct_edges (ring m r) ≡ true
  ring_apart r there = orbit_apart same_edges (signed_edges m) (next m) (next_permutes t h.rotation) r (rings-signed m r there)

  -- no two rings meet
  meet : (r q d : ℤ) → has_edge (rings m) r ≡ true → has_edge (rings m) q ≡ true → has_edge (ring m r) d ≡ true → has_edge (ring m q) d ≡ true → r ≡ q
  meet r q d r_in q_in on_r on_q =
      let rs = rings-signed m r r_in in
      let qs = rings-signed m q q_in in
      let names : ring_name m r ≡ ring_name m q = sym (ring_name-same m parts r d rs on_r) ∙ ring_name-same m parts q d qs on_q in
      let on : has_edge (ring m r) q ≡ true = ring_alike m parts r q rs qs ∙ ap (λ x. same_edge (ring_name m r) x) (sym names) ∙ same_self (ring_name m r) in
      rings-one m parts r q r_in q_in on

  rings_distinct : (rs : List ℤ) → is_distinct_edges rs ≡ true → ((r : ℤ) → has_edge rs r ≡ true → has_edge (rings m) r ≡ true) → is_distinct_edges (flat_map (ring m) rs) ≡ true
  rings_distinct [] apart within = refl
  rings_distinct (r ∷ rs) apart within =
      let split = and_parts (not (has_edge rs r)) (is_distinct_edges rs) apart in
      let there = within r (or_left (same_edge r r) (has_edge rs r) (same_self r)) in
      distinct_both (ring m r) (flat_map (ring m) rs) (ring_apart r there) (rings_distinct rs split.1 (λ q on. within q (or_right (same_edge q r) (has_edge rs q) on)))
      (λ d here more.
      let q = from_flat (ring m) rs d more in
      let is = meet r q.0 d there (within q.0 (or_right (same_edge q.0 r) (has_edge rs q.0) q.1)) here q.2 in
      both_ways (has_edge rs r) (not-true _ split.0) (subst (λ x. has_edge rs x ≡ true) (sym is) q.1))

  -- the shell's ring and the holes' rings

  hole_in : (f : ℕ) (q : ℤ) → has_edge (holes m f) q ≡ true → (is_outer m q ≡ true) × (has_edge (rings m) q ≡ true)
  hole_in f q on =
      let it = from_filter same_edges (λ r. (side m r == f) && is_outer m r) (rings m) q on in
      ((and_parts (side m q == f) (is_outer m q) it.0).1, it.1)

  front_apart : (f : ℕ) (o : Option ℤ) → shell m f ≡ o → is_distinct_edges (ring_if_some m o) ≡ true
  front_apart f None e = refl
  front_apart f (Some r) e = ring_apart r (found (λ r. (side m r == f) && not (is_outer m r)) (rings m) r e).0

  front_meets : (f : ℕ) (o : Option ℤ) (d q : ℤ) → shell m f ≡ o → has_edge (ring_if_some m o) d ≡ true → has_edge (holes m f) q ≡ true → has_edge (ring m q) d ≡ true → ⊥
  front_meets f None d q e on hole back = both_ways false refl on
  front_meets f (Some r) d q e on hole back =
      let it = found (λ r. (side m r == f) && not (is_outer m r)) (rings m) r e in
      let inner = not-true _ (and_parts (side m r == f) (not (is_outer m r)) it.1).1 in
      let out = hole_in f q hole in
      let is = meet r q d it.0 out.1 on back in
      both_ways (is_outer m r) inner (subst (λ x. is_outer m x ≡ true) (sym is) out.0)

  shell_apart : (f : ℕ) (b : Bool) → is_distinct_edges (if b then [] else ring_if_some m (shell m f)) ≡ true
  shell_apart f true = refl
  shell_apart f false = front_apart f (shell m f) refl

  shell_meets : (f : ℕ) (b : Bool) (d q : ℤ) → has_edge (if b then [] else ring_if_some m (shell m f)) d ≡ true → has_edge (holes m f) q ≡ true → has_edge (ring m q) d ≡ true → ⊥
  shell_meets f true d q on hole back = both_ways false refl on
  shell_meets f false d q on hole back = front_meets f (shell m f) d q refl on hole back

  face_apart : (f : ℕ) → is_distinct_edges (face_edges m f) ≡ true
  face_apart f =
      distinct_both (if f == 0 then [] else ring_if_some m (shell m f)) (flat_map (ring m) (holes m f)) (shell_apart f (f == 0))
      (rings_distinct (holes m f) (apart_kept same_edges (λ r. (side m r == f) && is_outer m r) (rings m) (rings-apart m parts)) (λ r on. (hole_in f r on).1))
      (λ d front back. let q = from_flat (ring m) (holes m f) d back in shell_meets f (f == 0) d q.0 front q.1 q.2)

  face_few : (f : ℕ) → length (face_edges m f) ≤ length (at_number (side m) f (signed_edges m))
  face_few f = pigeon same_edges (face_edges m f) (at_number (side m) f (signed_edges m)) (face_apart f) (λ d on.
      let it = of_face t h settled f d on in
      in_filter same_edges (λ d. side m d == f) (signed_edges m) d (eq-eqb (side m d) f it.1) it.0)

  along_few : (fs : List ℕ) → along m fs ≤ numbered (side m) (signed_edges m) fs
  unfolding along
  along_few [] = omega arith
  along_few (f ∷ fs) = let one = face_few f in let more = along_few fs in omega (arith, one, more)

  pub faces_few : (fs : List ℕ) → is_distinct fs ≡ true → along m fs ≤ length (signed_edges m)
  faces_few fs apart = let a = along_few fs in let b = few_numbered (side m) fs (signed_edges m) apart in omega (arith, a, b)
