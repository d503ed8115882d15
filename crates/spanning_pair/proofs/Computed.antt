-- Starts of a rotation that is written out: what a test computes of them.
use Rattle.std.proofs.Common.{◌≡◌, ℕ, zero, suc, ◌*◌, ◌<◌, Bool, true, ◌&&◌, ◌==◌, List, length, inl, inr, ap, ◌∙◌, sym, arith}
use Rattle.std.specs.Prelude.{if◌then◌else◌, nat_lt}
use Rattle.std.proofs.lemmas.Bool.{and_parts, cases_eq, eqb-true, ltb-true}
use Rattle.plane_model.specs.Component.{component}
use Rattle.plane_model.specs.Sets.{has_edge}
use Rattle.rotation_check.specs.Darts.{RotationRows, map_of_rotation, signed_edge}
use Rattle.spanning_pair.specs.Rotations.{AreComponentStarts}
use Rattle.spanning_pair.specs.Tours.{number_at}

unfoldable pub all_below : ℕ → (ℕ → Bool) → Bool
all_below zero p = true
all_below (suc n) p = p n && all_below n p

unfoldable pub place_below : ℕ → (ℕ → Bool) → ℕ
place_below zero p = 0
place_below (suc n) p = if p n then n else place_below n p

all_below_at : (n : ℕ) (p : ℕ → Bool) → all_below n p ≡ true → (d : ℕ) → d < n → p d ≡ true
unfolding all_below
all_below_at zero p h d l = absurd (omega arith)
all_below_at (suc n) p h d l = elim (cases_eq d n) [
  | inl i ↦ ap p i ∙ (and_parts (p n) (all_below n p) h).0
  | inr i ↦ all_below_at n p (and_parts (p n) (all_below n p) h).1 d (omega arith)
]

-- what follows where a test passes
implied : (a b : Bool) → (if a then b else true) ≡ true → a ≡ true → b ≡ true
implied a b h e = sym (ap (λ v. if v then b else true) e) ∙ h

unfoldable pub is_connected : RotationRows → ℕ → ℕ → Bool
is_connected r start dart = has_edge (component (map_of_rotation r) (signed_edge r.edges start)) (signed_edge r.edges dart)

unfoldable pub passes_starts : RotationRows → List ℕ → Bool
passes_starts r starts =
    all_below (length starts) (λ i. nat_lt (number_at starts i) (2 * length r.edges))
    && all_below (length starts) (λ i. all_below (length starts) (λ j. if is_connected r (number_at starts i) (number_at starts j) then i == j else true))
    && all_below (2 * length r.edges) (λ d. let i = place_below (length starts) (λ i. is_connected r (number_at starts i) d) in nat_lt i (length starts) && is_connected r (number_at starts i) d)

pub starts_from_test : (r : RotationRows) (starts : List ℕ) → passes_starts r starts ≡ true → AreComponentStarts r starts
unfolding passes_starts is_connected
starts_from_test r starts h =
    let a = and_parts _ (all_below (2 * length r.edges) (λ d. nat_lt (place_below (length starts) (λ i. is_connected r (number_at starts i) d)) (length starts) && is_connected r (number_at starts (place_below (length starts) (λ i. is_connected r (number_at starts i) d))) d)) h in
    let b = and_parts (all_below (length starts) (λ i. nat_lt (number_at starts i) (2 * length r.edges))) _ a.0 in
    record {
      below = λ i l. ltb-true _ _ (all_below_at (length starts) (λ i. nat_lt (number_at starts i) (2 * length r.edges)) b.0 i l);
      apart = λ i j l k c. eqb-true i j (implied (is_connected r (number_at starts i) (number_at starts j)) (i == j)
          (all_below_at (length starts) (λ j. if is_connected r (number_at starts i) (number_at starts j) then i == j else true)
          (all_below_at (length starts) (λ i. all_below (length starts) (λ j. if is_connected r (number_at starts i) (number_at starts j) then i == j else true)) b.1 i l) j k) c);
      each = λ d l.
          let p = and_parts _ (is_connected r (number_at starts (place_below (length starts) (λ i. is_connected r (number_at starts i) d))) d)
          (all_below_at (2 * length r.edges) (λ d. nat_lt (place_below (length starts) (λ i. is_connected r (number_at starts i) d)) (length starts) && is_connected r (number_at starts (place_below (length starts) (λ i. is_connected r (number_at starts i) d))) d) a.1 d l) in
          (place_below (length starts) (λ i. is_connected r (number_at starts i) d), ltb-true _ _ p.0, p.1);
    }
