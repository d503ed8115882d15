-- The high parts of a rising list.
use Rattle.std.specs.Prelude.{slice_index_or}
use Rattle.std.proofs.Common.{◌≡◌, ℕ, ◌+◌, ◌-◌, ◌<◌, ◌≤◌, inl, inr, Bool, true, false, List, length, ap, sym, arith, Some, None}
use Rattle.std.proofs.lemmas.Bool.{cases_lt}
use Rattle.bit_words.specs.Bits.{rank, IsSelected}
use Rattle.bit_words.proofs.Ranks.{rank_both, rank-le-rank, rank_more_yes, rank_more_no}
use Rattle.rank_select.proofs.Selects.{select-placed, selected}
use Rattle.id_names.specs.Rising.{zeros_at, high_part}

-- a one, whose zeros before it are the high part
pub record IsHigh (high : List Bool) (j p : ℕ) : Type 0 where
  pub within : p < length high
  pub one : slice_index_or high p false ≡ true
  pub ones : rank true high p ≡ j
  pub zeros : rank false high p ≡ high_part high j

pub high_there : (high : List Bool) (j : ℕ) → j < rank true high (length high) → (p : ℕ) × IsHigh high j p
unfolding high_part
high_there high j h =
    let s = select-placed true high j h in
    let e : high_part high j ≡ s.0 - j = ap (zeros_at j) s.1 in
    let both = rank_both high s.0 (omega (arith, s.2.within)) in
    (s.0, record { within = s.2.within; one = s.2.kind; ones = s.2.rank; zeros = omega (arith, e, both, s.2.rank) })

-- the place that a search finds is that of the one
pub high_found : (high : List Bool) (j p : ℕ) → IsSelected true high j (Some p) → high_part high j ≡ p - j
unfolding high_part
high_found high j p h = ap (zeros_at j) (sym (selected true high j (Some p) h))

-- a high part is at most the number of zeros
pub high_few : (high : List Bool) (j : ℕ) → j < rank true high (length high) → high_part high j + rank true high (length high) ≤ length high
high_few high j h =
    let p = high_there high j h in
    let both = rank_both high (length high) (omega arith) in
    let more = rank-le-rank false high p.0 (length high) (omega (arith, p.1.within)) in
    omega (arith, both, more, p.1.zeros)

-- high parts do not fall
pub high_rise : (high : List Bool) (i j : ℕ) → i ≤ j → j < rank true high (length high) → high_part high i ≤ high_part high j
high_rise high i j l h =
    let p = high_there high i (omega arith) in
    let q = high_there high j h in
    elim (cases_lt q.0 p.0) [
      | inl less ↦
          let up = rank_more_yes true high q.0 false q.1.within q.1.one in
          let more = rank-le-rank true high (q.0 + 1) p.0 (omega arith) in
          absurd (omega (arith, up, more, p.1.ones, q.1.ones))
      | inr more ↦ omega (arith, rank-le-rank false high p.0 q.0 more, p.1.zeros, q.1.zeros)
    ]

-- what stands before zero number h, and what behind it
pub before_zero : (high : List Bool) (h z k : ℕ) → IsSelected false high h (Some z) → k < z - h → high_part high k ≤ h
before_zero high h z k s l =
    let both = rank_both high z (omega (arith, s.0)) in
    let all = rank-le-rank true high z (length high) (omega (arith, s.0)) in
    let p = high_there high k (omega (arith, both, all, s.2)) in
    elim (cases_lt z p.0) [
      | inl less ↦ absurd (omega (arith, rank-le-rank true high z p.0 (omega arith), both, s.2, p.1.ones))
      | inr more ↦ omega (arith, rank-le-rank false high p.0 z more, p.1.zeros, s.2)
    ]

pub after_zero : (high : List Bool) (h z k : ℕ) → IsSelected false high h (Some z) → z - h ≤ k → k < rank true high (length high) → h < high_part high k
after_zero high h z k s l within =
    let both = rank_both high z (omega (arith, s.0)) in
    let p = high_there high k within in
    let up = rank_more_yes false high z true s.0 s.1 in
    elim (cases_lt z p.0) [
      | inl less ↦ omega (arith, rank-le-rank false high (z + 1) p.0 (omega arith), up, s.2, p.1.zeros)
      | inr more ↦
          let ones = rank-le-rank true high p.0 z more in
          elim (cases_lt p.0 z) [
            | inl before ↦
                let one = rank_more_yes true high p.0 false p.1.within p.1.one in
                let less = rank-le-rank true high (p.0 + 1) z (omega arith) in
                absurd (omega (arith, one, less, both, s.2, p.1.ones))
            | inr same ↦
                let e : p.0 ≡ z = omega arith in
                let one = rank_more_yes true high p.0 false p.1.within p.1.one in
                let still = rank_more_no true high z true s.0 s.1 in
                let a : rank true high (p.0 + 1) ≡ rank true high (z + 1) = ap (λ x. rank true high (x + 1)) e in
                let b : rank true high p.0 ≡ rank true high z = ap (λ x. rank true high x) e in
                absurd (omega (arith, one, still, a, b))
          ]
    ]

-- where there is no zero number h
pub no_zero : (high : List Bool) (h k : ℕ) → IsSelected false high h None → k < rank true high (length high) → high_part high k ≤ h
no_zero high h k s l =
    let p = high_there high k l in
    omega (arith, rank-le-rank false high p.0 (length high) (omega (arith, p.1.within)), p.1.zeros, s)

-- where all n ones stand before h zeros
pub all_before : (high : List Bool) (n h k : ℕ) → n + h ≤ length high → rank true high (n + h) ≡ n → k < n → k < rank true high (length high) → high_part high k ≤ h
all_before high n h k within all few l =
    let p = high_there high k l in
    let both = rank_both high (n + h) within in
    elim (cases_lt (n + h) p.0) [
      | inl less ↦ absurd (omega (arith, rank-le-rank true high (n + h) p.0 (omega arith), all, few, p.1.ones))
      | inr more ↦ omega (arith, rank-le-rank false high p.0 (n + h) more, both, all, p.1.zeros)
    ]
