-- One step of looking for the next border edge round a node.
use Rattle.std.proofs.Common.{◌≡◌, ℕ, zero, suc, ◌+◌, ◌-◌, ◌*◌, ◌<◌, ◌≤◌, ℤ, Bool, true, false, List, [], ◌∷◌, ◌++◌, length, refl, sym, ap, ◌∙◌, subst, arith}
use Rattle.std.proofs.lemmas.List.{length-append}
use Rattle.plane_model.specs.PlaneMap.{PlaneMap, signed_edges, next, turn}
use Rattle.plane_model.specs.Border.{is_border, first_border, outline}
use Rattle.region_border.specs.Looked.{passed_from, passed, looked}

module _ (m : PlaneMap) (r : ℕ) where
  here : (n : ℕ) (d : ℤ) → is_border m r d ≡ true → first_border (suc n) m r d ≡ d
  here n d b = rw b refl

  on : (n : ℕ) (d : ℤ) → is_border m r d ≡ false → first_border (suc n) m r d ≡ first_border n m r (turn m d)
  on n d b = rw b refl

  passed-here : (n : ℕ) (d : ℤ) → is_border m r d ≡ true → passed_from (suc n) m r d ≡ []
  unfolding passed_from
  passed-here n d b = rw b refl

  passed-on : (n : ℕ) (d : ℤ) → is_border m r d ≡ false → passed_from (suc n) m r d ≡ d ∷ passed_from n m r (turn m d)
  unfolding passed_from
  passed-on n d b = rw b refl

  fuel : (i : ℕ) → i < length (signed_edges m) → length (signed_edges m) - i ≡ suc (length (signed_edges m) - (i + 1))
  fuel i l = omega (arith, l)

  -- the search begins at the next one
  pub begins-at : (d e : ℤ) → e ≡ next m d → first_border (length (signed_edges m) - 0) m r e ≡ outline m r d
  begins-at d e is =
      let whole : length (signed_edges m) - 0 ≡ length (signed_edges m) = omega arith in
      ap (λ n. first_border n m r e) whole ∙ ap (first_border (length (signed_edges m)) m r) is

  -- a border edge ends the search
  pub found-here : (i : ℕ) (d : ℤ) → i < length (signed_edges m) → is_border m r d ≡ true → first_border (length (signed_edges m) - i) m r d ≡ d
  found-here i d l b = ap (λ n. first_border n m r d) (fuel i l) ∙ here (length (signed_edges m) - (i + 1)) d b

  pub none-passed : (i : ℕ) (d : ℤ) → i < length (signed_edges m) → is_border m r d ≡ true → length (passed_from (length (signed_edges m) - i) m r d) ≡ 0
  none-passed i d l b = ap (λ n. length (passed_from n m r d)) (fuel i l) ∙ ap length (passed-here (length (signed_edges m) - (i + 1)) d b)

  -- and another is passed
  pub goes-on : (i : ℕ) (d e : ℤ) → i < length (signed_edges m) → is_border m r d ≡ false → e ≡ turn m d → first_border (length (signed_edges m) - (i + 1)) m r e ≡ first_border (length (signed_edges m) - i) m r d
  goes-on i d e l b is =
      let n = length (signed_edges m) - (i + 1) in
      ap (first_border n m r) is ∙ sym (ap (λ n. first_border n m r d) (fuel i l) ∙ on n d b)

  pub one-passed : (i : ℕ) (d e : ℤ) → i < length (signed_edges m) → is_border m r d ≡ false → e ≡ turn m d → length (passed_from (length (signed_edges m) - i) m r d) ≡ length (passed_from (length (signed_edges m) - (i + 1)) m r e) + 1
  one-passed i d e l b is =
      let n = length (signed_edges m) - (i + 1) in
      let all : length (passed_from (length (signed_edges m) - i) m r d) ≡ suc (length (passed_from n m r (turn m d))) = ap (λ n. length (passed_from n m r d)) (fuel i l) ∙ ap length (passed-on n d b) in
      let same = ap (λ x. length (passed_from n m r x)) is in
      omega (arith, all, same)

  -- at the end the search gives what it came to
  pub ended : (i : ℕ) (d : ℤ) → length (signed_edges m) ≤ i → first_border (length (signed_edges m) - i) m r d ≡ d
  ended i d l = let none : length (signed_edges m) - i ≡ 0 = omega (arith, l) in ap (λ n. first_border n m r d) none

  pub looked-long : (d : ℤ) → length (looked m r d) ≡ length (passed m r d) + 1
  looked-long d = length-append (passed m r d) (outline m r d ∷ [])
