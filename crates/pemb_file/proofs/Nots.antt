-- The first number that fails a test.
use Rattle.std.specs.Prelude.{not, find}
use Rattle.std.proofs.Common.{◌≡◌, ℕ, ◌<◌, Bool, true, false, ap, arith, Some, None}
use Rattle.std.specs.List.{range_with_len}
use Rattle.bit_words.proofs.Finds.{find-least, find-none}

abbrev pub PassBelow : (ℕ → Bool) → ℕ → Type 0
PassBelow test n = (k : ℕ) → k < n → test k ≡ true

pub first-not : (test : ℕ → Bool) (n j : ℕ) → j < n → PassBelow test j → test j ≡ false → find (λ k. not (test k)) (range_with_len 0 n) ≡ Some j
first-not test n j l before here =
    find-least (λ k. not (test k)) 0 n j (record { from = omega arith; within = omega arith; passes = ap not here; before = λ q a b. ap not (before q b) })

pub none-not : (test : ℕ → Bool) (n : ℕ) → PassBelow test n → find (λ k. not (test k)) (range_with_len 0 n) ≡ None
none-not test n all = find-none (λ k. not (test k)) 0 n (λ q a b. ap not (all q (omega arith)))
