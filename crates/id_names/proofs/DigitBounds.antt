-- Bounds by the number of digits.
use Rattle.std.proofs.Common.{◌≡◌, ℕ, zero, suc, ◌+◌, ◌*◌, ◌/◌, ◌<◌, ◌≤◌, ◌^◌, ◌-◌, ◌⊎◌, inl, inr, refl, ap, ◌∙◌, arith}
use Rattle.std.proofs.lemmas.Bool.{cases_lt}
use Rattle.std.proofs.lemmas.Nat.{pow-add}
use Rattle.std.proofs.Math.Nat.{pow-le-pow_right}
use Rattle.bit_words.specs.Digits.{digits}
use Rattle.bit_words.proofs.DigitLaws.{digits-zero, digits-half, digits-halved, digits-mono, digits-pow}

below_to : (k n : ℕ) → n ≤ k → n < 2 ^ digits n
below_to zero n h = let e : n ≡ 0 = omega arith in rw (e, digits-zero) (omega arith)
below_to (suc k) n h = elim (cases_lt 0 n) [
  | inl some ↦
      let half = below_to k (n / 2) (omega arith) in
      let e = digits-half n some in
      let f : 2 ^ digits n ≡ 2 ^ (digits (n / 2) + 1) = ap (λ d. 2 ^ d) e in
      let g : 2 ^ (digits (n / 2) + 1) ≡ 2 * 2 ^ digits (n / 2) = pow-add 2 (digits (n / 2)) 1 ∙ omega arith in
      omega (arith, half, f, g)
  | inr none ↦ let e : n ≡ 0 = omega arith in rw (e, digits-zero) (omega arith)
]

-- a number is below the power of two of its digits
pub below_power : (n : ℕ) → n < 2 ^ digits n
below_power n = below_to n n (omega arith)

power_to : (k n : ℕ) → n ≤ k → 0 < n → 2 ^ digits n ≤ 2 * n
power_to zero n h some = absurd (omega arith)
power_to (suc k) n h some =
    let e = digits-half n some in
    let f : 2 ^ digits n ≡ 2 ^ (digits (n / 2) + 1) = ap (λ d. 2 ^ d) e in
    let g : 2 ^ (digits (n / 2) + 1) ≡ 2 * 2 ^ digits (n / 2) = pow-add 2 (digits (n / 2)) 1 ∙ omega arith in
    elim (cases_lt 0 (n / 2)) [
      | inl more ↦ let half = power_to k (n / 2) (omega arith) more in omega (arith, half, f, g)
      | inr none ↦
          let z : n / 2 ≡ 0 = omega arith in
          let d : digits (n / 2) ≡ 0 = ap digits z ∙ digits-zero in
          let p : 2 ^ digits (n / 2) ≡ 1 = ap (λ d. 2 ^ d) d in
          omega (arith, f, g, p)
    ]

-- and at least half of that power
pub power_few : (n : ℕ) → 2 ^ digits n ≤ 2 * n + 1
power_few n = elim (cases_lt 0 n) [
  | inl some ↦ omega (arith, power_to n n (omega arith) some)
  | inr none ↦
      let z : n ≡ 0 = omega arith in
      let d : digits n ≡ 0 = ap digits z ∙ digits-zero in
      let p : 2 ^ digits n ≡ 1 = ap (λ d. 2 ^ d) d in
      omega (arith, p)
]

-- four times as much has two digits more
pub four_times : (n : ℕ) → 0 < n → digits (4 * n) ≡ digits n + 2
four_times n some =
    let a = digits-half (4 * n) (omega arith) in
    let b = digits-half (4 * n / 2) (omega arith) in
    let e : 4 * n / 2 / 2 ≡ n = omega arith in
    let f : digits (4 * n / 2 / 2) ≡ digits n = ap digits e in
    omega (arith, a, b, f)

-- the bits of the high parts of c ids
pub high_digits : (c bits : ℕ) → bits ≡ c + 2 ^ digits c → digits (bits + 2) ≤ digits (c + 2) + 2
high_digits c bits e =
    let few = power_few c in
    omega (arith, digits-mono (bits + 2) (4 * (c + 2)) (omega (arith, few, e)), four_times (c + 2) (omega arith))

-- so many digits, by both bounds
pub digits-is : (n m : ℕ) → n < 2 ^ m → 2 ^ m ≤ 2 * n + 1 → m ≡ digits n
digits-is n m above few = elim (cases_lt (digits n) m) [
  | inl less ↦
      let two : 0 < 2 = omega arith in
      let l : digits n + 1 ≤ m = omega arith in
      let p : 2 ^ (digits n + 1) ≤ 2 ^ m = pow-le-pow_right two l in
      absurd (omega (arith, below_power n, pow-add 2 (digits n) 1, p))
  | inr more ↦ omega (arith, digits-pow n m above)
]

digits-256 : digits 256 ≡ 9
unfolding digits
digits-256 = refl

-- 256 numbers and more have nine digits
pub nine_digits : (n : ℕ) → 256 ≤ n → 9 ≤ digits (n + 2)
nine_digits n h = omega (arith, digits-256, digits-mono 256 (n + 2) (omega arith))

-- a search that looks at place j of from..to leaves one probe or one digit less: it has n places left, on either side
pub less_left : (from to j probes n : ℕ) → from ≤ j → j < to → (probes ≡ 0 → j ≡ from + (to - from) / 2) → (n ≤ j - from) ⊎ (n ≤ to - (j + 1)) → (probes - 1) + digits n + 1 ≤ probes + digits (to - from)
less_left from to j probes n a b middle side =
    let few : n ≤ to - from = elim side [ inl l ↦ omega arith | inr l ↦ omega arith ] in
    elim (cases_lt 0 probes) [
      | inl some ↦ omega (arith, digits-mono n (to - from) few)
      | inr none ↦
          let z : probes ≡ 0 = omega arith in
          let m = middle z in
          let half : n ≤ (to - from) / 2 = elim side [ inl l ↦ omega arith | inr l ↦ omega arith ] in
          omega (arith, digits-halved n (to - from) (omega arith) half)
    ]
