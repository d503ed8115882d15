-- A walk round a node counts the signed edges of its round.
use Rattle.std.proofs.Common.{◌≡◌, ℕ, zero, suc, ◌+◌, ◌*◌, ◌<◌, inl, inr, ℤ, true, false, ◌||◌, List, [], ◌∷◌, length, refl, sym, ap, ◌∙◌, subst, arith}
use Rattle.std.specs.Prelude.{if◌then◌else◌, slice_index}
use Rattle.std.proofs.lemmas.Bool.{or_cases, cases_Bool, both_ways}
use Rattle.topo_base.specs.SignedEdge.{same_edge}
use Rattle.orbits.specs.Walks as walks
use Rattle.orbits.proofs.Orbits.{orbit_returns}
use Rattle.plane_model.specs.Rows.{Rows}
use Rattle.plane_model.specs.PlaneMap.{map_of, signed_edges, turn, until_return, round}
use Rattle.plane_model.specs.Orders.{Permutes, returns}
use Rattle.plane_model.proofs.SetLaws.{same_is, same_self, same_edges}
use Rattle.rotation_check.specs.Darts.{AreDarts, reverse_dart, signed_edge}
use Rattle.rotation_check.proofs.DartLists.{dart_edges, number_of, number_of-signed, length-dart_edges, signed_there}
use Rattle.rotation_check.proofs.EndLemmas.{one_dart}
use Rattle.rotation_check.proofs.Turning.{turn_is, reverse-within}

-- how many are left at x
pub left : ℕ → (ℤ → ℤ) → ℤ → ℤ → ℕ
left n step first x = if same_edge x first then 0 else length (until_return n step first x)

length-until : (n : ℕ) (step : ℤ → ℤ) (first x : ℤ) → length (until_return (suc n) step first x) ≡ suc (left n step first (step x))
unfolding walks.until_return left
length-until n step first x = elim (cases_Bool (same_edge (step x) first)) [ inl e ↦ rw e refl | inr e ↦ rw e refl ]

left-first : (n : ℕ) (step : ℤ → ℤ) (first x : ℤ) → same_edge x first ≡ true → left n step first x ≡ 0
unfolding left
left-first n step first x h = rw h refl

left-further : (n : ℕ) (step : ℤ → ℤ) (first x : ℤ) → same_edge x first ≡ false → left (suc n) step first x ≡ suc (left n step first (step x))
unfolding left
left-further n step first x h = ap (λ b. if b then 0 else length (until_return (suc n) step first x)) h ∙ length-until n step first x

all_pass : (ds : List ℤ) → number_of (λ d. true) ds ≡ length ds
all_pass [] = refl
all_pass (d ∷ ds) = ap suc (all_pass ds)

pub length-signed : (t : Rows) → length (signed_edges (map_of t)) ≡ 2 * length t.edges
length-signed t = sym (all_pass (signed_edges (map_of t))) ∙ number_of-signed (λ d. true) t ∙ all_pass (dart_edges t.edges) ∙ length-dart_edges t.edges

-- a walk from a dart that has counted some of its round, and stands at the next
pub record RoundSoFar (t : Rows) (dart at count : ℕ) : Type 0 where
  pub within : at < 2 * length t.edges
  pub fuel : ℕ
  pub sum : fuel + count ≡ 2 * length t.edges
  pub total : length (round (map_of t) (signed_edge t.edges dart)) ≡ count + left fuel (turn (map_of t)) (signed_edge t.edges dart) (signed_edge t.edges at)
  pub back : (same_edge (signed_edge t.edges at) (signed_edge t.edges dart) || returns fuel (turn (map_of t)) (signed_edge t.edges dart) (signed_edge t.edges at)) ≡ true

turned : (t : Rows) (nexts rows : List ℕ) → AreDarts t nexts rows → (at after : ℕ) → at < 2 * length t.edges → after ≡ slice_index nexts (reverse_dart at) → (after < 2 * length t.edges) × (signed_edge t.edges after ≡ turn (map_of t) (signed_edge t.edges at))
turned t nexts rows darts at after h is = (
  subst (λ j. j < 2 * length t.edges) (sym is) (darts.next_darts.1 (reverse_dart at) (reverse-within t.edges at h)).0,
  ap (signed_edge t.edges) is ∙ turn_is t.edges nexts at darts.next_darts h,
)

pub round_first : (t : Rows) (nexts rows : List ℕ) → AreDarts t nexts rows → Permutes (signed_edges (map_of t)) (turn (map_of t)) → (dart after : ℕ) → dart < 2 * length t.edges → after ≡ slice_index nexts (reverse_dart dart) → RoundSoFar t dart after 1
round_first t nexts rows darts p dart after h is =
    let d = signed_edge t.edges dart in
    let step = turn (map_of t) in
    let s = turned t nexts rows darts dart after h is in
    by_length (length (signed_edges (map_of t))) refl (length-signed t) (orbit_returns same_edges (signed_edges (map_of t)) step p d (signed_there t dart h)) s
  where
    by_length : (n : ℕ) → length (signed_edges (map_of t)) ≡ n → length (signed_edges (map_of t)) ≡ 2 * length t.edges
        → returns (length (signed_edges (map_of t))) (turn (map_of t)) (signed_edge t.edges dart) (signed_edge t.edges dart) ≡ true
        → (after < 2 * length t.edges) × (signed_edge t.edges after ≡ turn (map_of t) (signed_edge t.edges dart)) → RoundSoFar t dart after 1
    by_length zero n_is whole back s = absurd (both_ways false refl (subst (λ n. returns n (turn (map_of t)) (signed_edge t.edges dart) (signed_edge t.edges dart) ≡ true) n_is back))
    by_length (suc n) n_is whole back s =
        let d = signed_edge t.edges dart in
        let step = turn (map_of t) in
        let again : returns (suc n) step d d ≡ true = subst (λ n. returns n step d d ≡ true) n_is back in
        record {
          within = s.0;
          fuel = n;
          sum = omega arith;
          total = ap (λ k. length (until_return k step d d)) n_is ∙ length-until n step d d ∙ ap (λ x. suc (left n step d x)) (sym s.1) ∙ (let e : suc (left n step d (signed_edge t.edges after)) ≡ 1 + left n step d (signed_edge t.edges after) = omega arith in e);
          back = subst (λ x. (same_edge x d || returns n step d x) ≡ true) (sym s.1) again;
        }

differ : (t : Rows) (nexts rows : List ℕ) → AreDarts t nexts rows → (dart at : ℕ) → dart < 2 * length t.edges → at < 2 * length t.edges → (at ≡ dart → ⊥) → same_edge (signed_edge t.edges at) (signed_edge t.edges dart) ≡ false
differ t nexts rows darts dart at h k ne = elim (cases_Bool (same_edge (signed_edge t.edges at) (signed_edge t.edges dart))) [
  | inl e ↦ absurd (ne (one_dart t nexts rows darts at dart k h (same_is _ _ e)))
  | inr e ↦ e
]

-- while it has not returned, some are left to count
pub round_left : (t : Rows) (nexts rows : List ℕ) → AreDarts t nexts rows → (dart at count : ℕ) → dart < 2 * length t.edges → (at ≡ dart → ⊥) → RoundSoFar t dart at count → count < 2 * length t.edges
round_left t nexts rows darts dart at count h ne so_far = by_fuel so_far.fuel so_far.sum so_far.back
  where
    by_fuel : (n : ℕ) → n + count ≡ 2 * length t.edges → (same_edge (signed_edge t.edges at) (signed_edge t.edges dart) || returns n (turn (map_of t)) (signed_edge t.edges dart) (signed_edge t.edges at)) ≡ true → count < 2 * length t.edges
    by_fuel zero sum back = elim (or_cases (same_edge (signed_edge t.edges at) (signed_edge t.edges dart)) _ back) [
      | inl e ↦ absurd (both_ways _ (differ t nexts rows darts dart at h so_far.within ne) e)
      | inr e ↦ absurd (both_ways false refl e)
    ]
    by_fuel (suc n) sum back = omega arith

pub round_next : (t : Rows) (nexts rows : List ℕ) → AreDarts t nexts rows → (dart at after count : ℕ) → dart < 2 * length t.edges → (at ≡ dart → ⊥) → after ≡ slice_index nexts (reverse_dart at) → RoundSoFar t dart at count → RoundSoFar t dart after (count + 1)
round_next t nexts rows darts dart at after count h ne is so_far = by_fuel so_far.fuel so_far.sum so_far.total so_far.back
  where
    by_fuel : (n : ℕ) → n + count ≡ 2 * length t.edges → length (round (map_of t) (signed_edge t.edges dart)) ≡ count + left n (turn (map_of t)) (signed_edge t.edges dart) (signed_edge t.edges at)
        → (same_edge (signed_edge t.edges at) (signed_edge t.edges dart) || returns n (turn (map_of t)) (signed_edge t.edges dart) (signed_edge t.edges at)) ≡ true → RoundSoFar t dart after (count + 1)
    by_fuel zero sum total back = elim (or_cases (same_edge (signed_edge t.edges at) (signed_edge t.edges dart)) _ back) [
      | inl e ↦ absurd (both_ways _ (differ t nexts rows darts dart at h so_far.within ne) e)
      | inr e ↦ absurd (both_ways false refl e)
    ]
    by_fuel (suc n) sum total back =
        let d = signed_edge t.edges dart in
        let x = signed_edge t.edges at in
        let step = turn (map_of t) in
        let apart = differ t nexts rows darts dart at h so_far.within ne in
        let s = turned t nexts rows darts at after so_far.within is in
        let one = left-further n step d x apart in
        let same : left n step d (step x) ≡ left n step d (signed_edge t.edges after) = ap (left n step d) (sym s.1) in
        let again : returns (suc n) step d x ≡ true = elim (or_cases (same_edge x d) (returns (suc n) step d x) back) [ inl e ↦ absurd (both_ways _ apart e) | inr e ↦ e ] in
        record {
          within = s.0;
          fuel = n;
          sum = omega arith;
          total = omega arith;
          back = subst (λ y. (same_edge y d || returns n step d y) ≡ true) (sym s.1) again;
        }

pub round_done : (t : Rows) (dart at count : ℕ) → at ≡ dart → RoundSoFar t dart at count → count ≡ length (round (map_of t) (signed_edge t.edges dart))
round_done t dart at count is so_far =
    let none = left-first so_far.fuel (turn (map_of t)) (signed_edge t.edges dart) (signed_edge t.edges at) (subst (λ x. same_edge x (signed_edge t.edges dart) ≡ true) (ap (signed_edge t.edges) (sym is)) (same_self (signed_edge t.edges dart))) in
    let total = so_far.total in
    omega arith
