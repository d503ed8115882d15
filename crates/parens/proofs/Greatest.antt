-- laws of `find` over falling numbers
use Rattle.std.specs.Prelude.{find}
use Rattle.std.proofs.Common.{◌≡◌, ℕ, zero, suc, ◌+◌, ◌-◌, ◌<◌, ◌≤◌, inl, inr, Bool, true, false, refl, ◌∙◌, subst, arith, Option, Some, None, add-zero}
use Rattle.std.proofs.lemmas.Bool.{cases_lt, cases_Bool}
use Rattle.std.proofs.lemmas.Option.{same_Some}
use Rattle.parens.specs.Matching.{falling}

pub falling_skip : (p : ℕ → Bool) (n k : ℕ) → ((q : ℕ) → n ≤ q → q < n + k → p q ≡ false) → find p (falling (n + k)) ≡ find p (falling n)
unfolding falling
falling_skip p n zero none = rw add-zero refl
falling_skip p n (suc k) none =
    let e : n + suc k ≡ suc (n + k) = omega arith in
    rw e (rw (none (n + k) (omega arith) (omega arith)) (falling_skip p n k (λ q l h. none q (omega arith) (omega arith))))

pub falling_same : (p r : ℕ → Bool) (n : ℕ) → ((q : ℕ) → q < n → p q ≡ r q) → find p (falling n) ≡ find r (falling n)
unfolding falling
falling_same p r zero same = refl
falling_same p r (suc n) same = rw (same n (omega arith), falling_same p r n (λ q h. same q (omega arith))) refl

pub find-greatest : (p : ℕ → Bool) (n k : ℕ) → k < n → p k ≡ true → ((q : ℕ) → k < q → q < n → p q ≡ false) → find p (falling n) ≡ Some k
unfolding falling
find-greatest p n k l passes after =
    let d = n - suc k in
    let e : suc k + d ≡ n = omega arith in
    let s : find p (falling (suc k + d)) ≡ find p (falling (suc k)) = falling_skip p (suc k) d (λ q a b. after q (omega arith) (omega arith)) in
    let t : find p (falling (suc k)) ≡ Some k = rw passes refl in
    subst (λ m. find p (falling m) ≡ Some k) e (s ∙ t)

pub find-no_falling : (p : ℕ → Bool) (n : ℕ) → ((q : ℕ) → q < n → p q ≡ false) → find p (falling n) ≡ None
unfolding falling
find-no_falling p zero none = refl
find-no_falling p (suc n) none = rw (none n (omega arith)) (find-no_falling p n (λ q h. none q (omega arith)))

-- the greatest number below n that passes a test
pub record IsGreatest (p : ℕ → Bool) (n k : ℕ) : Type 0 where
  pub below : k < n
  pub passes : p k ≡ true
  pub after : (q : ℕ) → k < q → q < n → p q ≡ false

pub greatest-find : (p : ℕ → Bool) (n k : ℕ) → find p (falling n) ≡ Some k → IsGreatest p n k
unfolding falling
greatest-find p zero k h = cc
greatest-find p (suc n) k h =
    elim (cases_Bool (p n)) [
      | inl w ↦
          let e : n ≡ k = same_Some n k (rw w at h) in
          record { below = omega arith; passes = subst (λ x. p x ≡ true) e w; after = λ q a b. absurd (omega arith) }
      | inr f ↦
          let more = greatest-find p n k (rw f at h) in
          record {
            below = omega (arith, more.below);
            passes = more.passes;
            after = λ q a b. elim (cases_lt q n) [ inl l ↦ more.after q a l | inr g ↦ let e : q ≡ n = omega arith in rw e f ];
          }
    ]

pub no_falling-find : (p : ℕ → Bool) (n : ℕ) → find p (falling n) ≡ None → (q : ℕ) → q < n → p q ≡ false
unfolding falling
no_falling-find p zero h q l = absurd (omega arith)
no_falling-find p (suc n) h q l =
    elim (cases_Bool (p n)) [
      | inl w ↦ let no_way : ◌≡◌ {A = Option ℕ} (Some n) None = rw w at h in cc
      | inr f ↦ elim (cases_lt q n) [ inl m ↦ no_falling-find p n (rw f at h) q m | inr g ↦ let e : q ≡ n = omega arith in rw e f ]
    ]
