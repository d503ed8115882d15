-- A walk that goes from each number with a property to the next one with it, and from the last one back, is the list of
-- these numbers.
use Rattle.std.proofs.Common.{◌≡◌, ℕ, zero, suc, ◌+◌, ◌-◌, ◌<◌, ◌≤◌, ◌⊎◌, inl, inr, Bool, true, false, [], ◌∷◌, refl, sym, ap, subst, arith, ◌==◌, eq-eqb}
use Rattle.std.specs.Prelude.{filter}
use Rattle.std.specs.List.{range_with_len}
use Rattle.std.proofs.lemmas.Bool.{cases_lt, ne_eqb}
use Rattle.orbits.specs.Walks as walks
use Rattle.code_laws.specs.Orbits.{walk}

-- q is the number with the property after p, below n
pub record IsAfter (test : ℕ → Bool) (n p q : ℕ) : Type 0 where
  pub order : p < q
  pub within : q < n
  pub passes : test q ≡ true
  pub none : (x : ℕ) → p < x → x < q → test x ≡ false

-- p is the last one
pub record IsLastOne (test : ℕ → Bool) (n p : ℕ) : Type 0 where
  pub none : (x : ℕ) → p < x → x < n → test x ≡ false

-- a step goes to the one after, or from the last one to `first`
abbrev pub Goes : (ℕ → Bool) → ℕ → ℕ → ℕ → ℕ → Type 0
Goes test n first p q = IsAfter test n p q ⊎ ((q ≡ first) × IsLastOne test n p)

pub filter-none : (test : ℕ → Bool) (low k : ℕ) → ((x : ℕ) → low ≤ x → x < low + k → test x ≡ false) → filter test (range_with_len low k) ≡ []
filter-none test low zero none = refl
filter-none test low (suc k) none = rw (none low (omega arith) (omega arith)) (filter-none test (low + 1) k (λ x l h. none x (omega arith) (omega arith)))

pub filter-next :
    (test : ℕ → Bool) (low k q : ℕ) → low ≤ q → q < low + k → test q ≡ true → ((x : ℕ) → low ≤ x → x < q → test x ≡ false)
    → filter test (range_with_len low k) ≡ q ∷ filter test (range_with_len (q + 1) (low + k - (q + 1)))
filter-next test low zero q above below passes none = absurd (omega arith)
filter-next test low (suc k) q above below passes none =
    elim (cases_lt low q) [
      | inl l ↦
          let e : low + 1 + k - (q + 1) ≡ low + suc k - (q + 1) = omega arith in
          rw (none low (omega arith) l) (subst (λ m. filter test (range_with_len (low + 1) k) ≡ q ∷ filter test (range_with_len (q + 1) m)) e
          (filter-next test (low + 1) k q (omega arith) (omega arith) passes (λ x a b. none x (omega arith) b)))
      | inr g ↦
          let e : low ≡ q = omega arith in
          let r : k ≡ low + suc k - (low + 1) = omega arith in
          subst (λ x. filter test (range_with_len low (suc k)) ≡ x ∷ filter test (range_with_len (x + 1) (low + suc k - (x + 1)))) e
          (rw (subst (λ x. test x ≡ true) (sym e) passes) (ap (λ m. low ∷ filter test (range_with_len (low + 1) m)) r))
    ]

pub walk-filter :
    (fuel n first p : ℕ) (test : ℕ → Bool) (f : ℕ → ℕ) → n ≤ p + fuel → first ≤ p → p < n
    → ((x : ℕ) → first ≤ x → x < n → test x ≡ true → Goes test n first x (f x)) → test p ≡ true
    → walk fuel f first p ≡ p ∷ filter test (range_with_len (p + 1) (n - (p + 1)))
unfolding walks.until_return
walk-filter zero n first p test f fuel_left above below goes passes = absurd (omega arith)
walk-filter (suc fuel) n first p test f fuel_left above below goes passes =
    elim (goes p above below passes) [
      | inl a ↦
          let other : (f p == first) ≡ false = ne_eqb (f p) first (λ e. omega (arith, e, a.order)) in
          let e : p + 1 + (n - (p + 1)) - (f p + 1) ≡ n - (f p + 1) = omega (arith, a.order) in
          rw other (ap (λ xs. p ∷ xs)
          (rw (filter-next test (p + 1) (n - (p + 1)) (f p) (omega (arith, a.order)) (omega (arith, a.within)) a.passes (λ x l h. a.none x (omega arith) h), e)
          (walk-filter fuel n first (f p) test f (omega (arith, a.order)) (omega (arith, a.order)) a.within goes a.passes)))
      | inr a ↦ rw (eq-eqb (f p) first a.0) (ap (λ xs. p ∷ xs) (sym (filter-none test (p + 1) (n - (p + 1)) (λ x l h. a.1.none x (omega arith) (omega arith)))))
    ]
