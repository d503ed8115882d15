-- What is among numbers.
use Rattle.std.specs.Prelude.{slice_index, slice_get, slice_index_or}
use Rattle.std.proofs.Common.{◌≡◌, ◌≢◌, ℕ, zero, suc, ◌+◌, ◌<◌, ◌≤◌, inl, inr, Bool, true, false, List, [], ◌∷◌, length, map, get_or, refl, ap, sym, ◌∙◌, subst, arith, Option, Some, None}
use Rattle.std.specs.List.{range_with_len, list_any}
use Rattle.std.proofs.lemmas.Bool.{cases_Bool, or_cases, or_left, or_right, both_ways, false_from_ne_true}
use Rattle.orbits.proofs.Numbers.{place_in}
use Rattle.plane_model.specs.Sets.{has}

pub not_there : (xs : List ℕ) (x : ℕ) → ((k : ℕ) → k < length xs → get_or xs k 0 ≢ x) → has xs x ≡ false
not_there xs x none = false_from_ne_true _ (λ h. let p = place_in xs x h in none p.0 p.1 p.2)

pub some_in_range : (t : ℕ → Bool) (low n : ℕ) → list_any t (range_with_len low n) ≡ true → (j : ℕ) × (low ≤ j) × (j < low + n) × (t j ≡ true)
some_in_range t low zero h = absurd (both_ways false refl h)
some_in_range t low (suc n) h = elim (or_cases (t low) (list_any t (range_with_len (low + 1) n)) h) [
  | inl is ↦ (low, omega arith, omega arith, is)
  | inr more ↦ let r = some_in_range t (low + 1) n more in (r.0, omega (arith, r.1), omega (arith, r.2), r.3)
]

pub in_range_some : (t : ℕ → Bool) (low n j : ℕ) → low ≤ j → j < low + n → t j ≡ true → list_any t (range_with_len low n) ≡ true
in_range_some t low zero j a b h = absurd (omega arith)
in_range_some t low (suc n) j a b h = elim (cases_Bool (t low)) [
  | inl e ↦ or_left _ _ e
  | inr e ↦ or_right (t low) _ (in_range_some t (low + 1) n j (above low j a h e) (omega arith) h)
]
  where
    above : (low j : ℕ) → low ≤ j → t j ≡ true → t low ≡ false → low + 1 ≤ j
    above low j a h e = let differ = λ (s : low ≡ j). both_ways (t low) e (subst (λ z. t z ≡ true) (sym s) h) in omega (arith, differ)
