-- Signed edges in their order, looked at for the beginnings of border rings: a border edge that is on no ring begun before is the smallest of its own.
use Rattle.std.proofs.Common.{◌≡◌, ℕ, zero, suc, ◌+◌, ◌<◌, ◌≤◌, inl, inr, ℤ, pos, Bool, true, false, not, ◌&&◌, List, [], ◌∷◌, ◌++◌, length, refl, sym, ap, ◌∙◌, subst, arith}
use Rattle.std.specs.Prelude.{filter, flat_map, take, drop, slice_index_or}
use Rattle.std.specs.List.{list_all}
use Rattle.std.proofs.lemmas.Bool.{and_parts, and_from, or_cases, cases_Bool, cases_lt, cases_eq, or_left, or_right, both_ways, false_from_ne_true}
use Rattle.std.proofs.lemmas.List.{drop_more}
use Rattle.orbits.proofs.Lists.{in_filter, from_filter, among}
use Rattle.topo_base.specs.SignedEdge.{same_edge, comes_before}
use Rattle.plane_model.specs.Sets.{has_edge}
use Rattle.plane_model.specs.PlaneMap.{PlaneMap, signed_edges, smallest}
use Rattle.plane_model.specs.Orders.{is_rising_edges}
use Rattle.plane_model.specs.Border.{is_border, border_ring}
use Rattle.plane_model.proofs.SetLaws.{same_is, same_self, same_edges}
use Rattle.plane_model.proofs.SortedEdges.{before_rank, smallest_least}
use Rattle.plane_model.proofs.RotationOrbits.{named, name_there, name_one}
use Rattle.plane_model.proofs.Sums.{into_flat, from_flat}
use Rattle.region_border.specs.Beginnings.{begins_ring, edges_from}
use Rattle.region_border.proofs.Outlines.{IsTurned, borders, listed}
use Rattle.region_border.proofs.BorderParts.{ring_parts, named-is}

abbrev pub at : List ℤ → ℕ → ℤ
at ds k = slice_index_or ds k (pos 0)

pub has_at : (ds : List ℤ) (k : ℕ) → k < length ds → has_edge ds (at ds k) ≡ true
has_at [] k l = absurd (omega (arith, l))
has_at (d ∷ ds) zero l = or_left _ _ (same_self d)
has_at (d ∷ ds) (suc k) l = or_right _ _ (has_at ds k (omega (arith, l)))

pub place_at : (ds : List ℤ) (d : ℤ) → has_edge ds d ≡ true → (k : ℕ) × (k < length ds) × (at ds k ≡ d)
place_at [] d h = absurd (both_ways false refl h)
place_at (e ∷ ds) d h = elim (or_cases (same_edge d e) (has_edge ds d) h) [
  | inl is ↦ (0, omega arith, sym (same_is d e is))
  | inr more ↦ let k = place_at ds d more in (suc k.0, omega (arith, k.1), k.2)
]

pub rises_at : (ds : List ℤ) → is_rising_edges ds ≡ true → (i k : ℕ) → i < k → k < length ds → comes_before (at ds i) (at ds k) ≡ true
rises_at [] h i k l m = absurd (omega (arith, m))
rises_at (d ∷ ds) h i zero l m = absurd (omega (arith, l))
rises_at (d ∷ ds) h zero (suc k) l m = among same_edges (comes_before d) ds (at ds k) (and_parts (list_all (comes_before d) ds) (is_rising_edges ds) h).0 (has_at ds k (omega (arith, m)))
rises_at (d ∷ ds) h (suc i) (suc k) l m = rises_at ds (and_parts (list_all (comes_before d) ds) (is_rising_edges ds) h).1 i k (omega (arith, l)) (omega (arith, m))

pub in_take : (ds : List ℤ) (s i : ℕ) → i < s → i < length ds → has_edge (take s ds) (at ds i) ≡ true
in_take [] s i l m = absurd (omega (arith, m))
in_take (d ∷ ds) zero i l m = absurd (omega (arith, l))
in_take (d ∷ ds) (suc s) zero l m = or_left _ _ (same_self d)
in_take (d ∷ ds) (suc s) (suc i) l m = or_right _ _ (in_take ds s i (omega (arith, l)) (omega (arith, m)))

pub from_take : (ds : List ℤ) (s : ℕ) (d : ℤ) → has_edge (take s ds) d ≡ true → (i : ℕ) × (i < s) × (i < length ds) × (at ds i ≡ d)
from_take [] zero d h = absurd (both_ways false refl h)
from_take [] (suc s) d h = absurd (both_ways false refl h)
from_take (e ∷ ds) zero d h = absurd (both_ways false refl h)
from_take (e ∷ ds) (suc s) d h = elim (or_cases (same_edge d e) (has_edge (take s ds) d) h) [
  | inl is ↦ (0, omega arith, omega arith, sym (same_is d e is))
  | inr more ↦ let k = from_take ds s d more in (suc k.0, omega (arith, k.1), omega (arith, k.2), k.3)
]

-- what fails a test is passed over
pub skipped : (p : ℤ → Bool) (ds : List ℤ) (n s : ℕ) → s + n ≤ length ds → ((j : ℕ) → s ≤ j → j < s + n → p (at ds j) ≡ false) → filter p (drop s ds) ≡ filter p (drop (s + n) ds)
skipped p ds zero s l fails = ap (λ x. filter p (drop x ds)) (omega arith)
skipped p ds (suc n) s l fails =
    let head = fails s (omega arith) (omega arith) in
    let more = skipped p ds n (s + 1) (omega (arith, l)) (λ j a b. fails j (omega (arith, a)) (omega (arith, b))) in
    let end : s + 1 + n ≡ s + suc n = omega arith in
    ap (filter p) (drop_more ds s (pos 0) (omega (arith, l))) ∙ head_out head ∙ more ∙ ap (λ x. filter p (drop x ds)) end
  where
    head_out : p (at ds s) ≡ false → filter p (at ds s ∷ drop (s + 1) ds) ≡ filter p (drop (s + 1) ds)
    head_out e = rw e refl

pub taken : (p : ℤ → Bool) (ds : List ℤ) (k : ℕ) → k < length ds → p (at ds k) ≡ true → filter p (drop k ds) ≡ at ds k ∷ filter p (drop (k + 1) ds)
taken p ds k l h = ap (filter p) (drop_more ds k (pos 0) l) ∙ head_in h
  where
    head_in : p (at ds k) ≡ true → filter p (at ds k ∷ drop (k + 1) ds) ≡ at ds k ∷ filter p (drop (k + 1) ds)
    head_in e = rw e refl

module _ (m : PlaneMap) (r : ℕ) (w : IsTurned m) (rise : is_rising_edges (signed_edges m) ≡ true) where
  abbrev all : List ℤ
  all = signed_edges m

  begins : ℤ → Bool
  begins d = begins_ring m r d

  is_named : (q : ℤ) → begins_ring m r q ≡ true → has_edge all q ≡ true → has_edge (named (borders m r w) (border_ring m r)) q ≡ true
  is_named q b there = subst (λ ds. has_edge ds q ≡ true) (sym (named-is m r w)) (in_filter same_edges (begins_ring m r) all q b there)

  in_borders : (d : ℤ) → has_edge all d ≡ true → is_border m r d ≡ true → has_edge (borders m r w) d ≡ true
  in_borders d there b = in_filter same_edges (is_border m r) all d b there

  -- one on a ring begun before begins none
  pub marked : (s k : ℕ) → s ≤ k → k < length all → has_edge (edges_from m r (take s all)) (at all k) ≡ true → begins_ring m r (at all k) ≡ false
  marked s k under l on = false_from_ne_true (begins_ring m r (at all k)) (λ b.
      let d = at all k in
      let q = from_flat (border_ring m r) (filter (begins_ring m r) (take s all)) d on in
      let f = from_filter same_edges (begins_ring m r) (take s all) q.0 q.1 in
      let i = from_take all s q.0 f.1 in
      let q_in : has_edge all q.0 ≡ true = subst (λ x. has_edge all x ≡ true) i.3 (has_at all i.0 i.2) in
      let d_on = in_borders d (has_at all k l) (and_parts (is_border m r d) (same_edge d (smallest d (border_ring m r d))) b).0 in
      let one : q.0 ≡ smallest d (border_ring m r d) = name_one (borders m r w) (border_ring m r) (ring_parts m r w) d q.0 d_on (is_named q.0 f.0 q_in) q.2 in
      let own : d ≡ smallest d (border_ring m r d) = same_is d (smallest d (border_ring m r d)) (and_parts (is_border m r d) (same_edge d (smallest d (border_ring m r d))) b).1 in
      let same : at all i.0 ≡ d = i.3 ∙ one ∙ sym own in
      let before = before_rank d d (subst (λ x. comes_before x d ≡ true) same (rises_at all rise i.0 k (omega (arith, i.1, under)) l)) in
      absurd (omega (arith, before)))

  -- a border edge that is on none begins its ring, where none begins between
  pub fresh : (s k : ℕ) → s ≤ k → k < length all → is_border m r (at all k) ≡ true → has_edge (edges_from m r (take s all)) (at all k) ≡ false
      → ((j : ℕ) → s ≤ j → j < k → begins_ring m r (at all j) ≡ false) → begins_ring m r (at all k) ≡ true
  fresh s k under l b off none =
      let d = at all k in
      let d_on = in_borders d (has_at all k l) b in
      let part = border_ring m r d in
      let q = smallest d part in
      let n = name_there (borders m r w) (border_ring m r) (ring_parts m r w) d d_on in
      let f = from_filter same_edges (begins_ring m r) all q (subst (λ ds. has_edge ds q ≡ true) (named-is m r w) n.0) in
      let i = place_at all q f.1 in
      let least = (smallest_least d part).least d (or_left _ _ (same_self d)) refl in
      elim (cases_lt i.0 k) [
        | inl lower ↦ elim (cases_lt i.0 s) [
          | inl low ↦
              let q_taken = in_filter same_edges (begins_ring m r) (take s all) q f.0 (subst (λ x. has_edge (take s all) x ≡ true) i.2 (in_take all s i.0 low i.1)) in
              let d_of_q : has_edge (border_ring m r q) d ≡ true = (ring_parts m r w).same d q d_on n.1 d ∙ (ring_parts m r w).own d d_on in
              absurd (both_ways _ off (into_flat (border_ring m r) (filter (begins_ring m r) (take s all)) q d q_taken d_of_q))
          | inr high ↦ absurd (both_ways _ (none i.0 high lower) (subst (λ x. begins_ring m r x ≡ true) (sym i.2) f.0))
        ]
        | inr upper ↦ elim (cases_eq i.0 k) [
          | inl e ↦
              let is : q ≡ d = sym i.2 ∙ ap (at all) e in
              and_from (is_border m r d) (same_edge d q) b (subst (λ x. same_edge d x ≡ true) (sym is) (same_self d))
          | inr other ↦
              let after : comes_before d q ≡ true = subst (λ x. comes_before d x ≡ true) i.2 (rises_at all rise k i.0 (omega (arith, upper, other)) i.1) in
              absurd (both_ways _ least after)
        ]
      ]
