-- The front of a line that is kept.
use Rattle.std.proofs.Common.{◌≡◌, ℕ, zero, suc, ◌+◌, ◌≤◌, ◌<◌, List, [], ◌∷◌, ◌++◌, length, take, min, inl, inr, refl, sym, ap, subst, ◌∙◌, arith}
use Rattle.std.specs.Prelude.{nat_lt, true, false, ◌==◌, if◌then◌else◌, ◌⊎◌}
use Rattle.std.proofs.lemmas.Bool.Decides.{nat_tests}
use Rattle.std.proofs.lemmas.List.{take_min, take_all, length-take-le}
use Rattle.topo_base.specs.Script.{Line, line, without_cr}
use Rattle.query_text.specs.Lines.{IsAsk}
use Rattle.topo_serve.specs.Pieces.{cut}

-- bytes behind a front that fits
pub front_fits : (xs ys : List ℕ) (k n : ℕ) → k + length xs ≡ n → take n (xs ++ ys) ≡ xs ++ take k ys
front_fits [] ys k n e = ap (λ z. take z ys) (omega (arith, e))
front_fits (x ∷ xs) ys k zero e = absurd (omega (arith, e))
front_fits (x ∷ xs) ys k (suc n) e = ap (λ z. x ∷ z) (front_fits xs ys k n (omega (arith, e)))

-- what fits behind a line
pub cut_room : (xs ys : List ℕ) (k : ℕ) → k + length xs ≡ 257 → xs ++ take (min k (length ys)) ys ≡ cut (xs ++ ys)
cut_room xs ys k e = ap (λ z. xs ++ z) (take_min k ys) ∙ sym (front_fits xs ys k 257 e)

take_more : (n : ℕ) (xs ys : List ℕ) → take n (take n xs ++ ys) ≡ take n (xs ++ ys)
take_more zero xs ys = refl
take_more (suc n) [] ys = refl
take_more (suc n) (x ∷ xs) ys = ap (λ z. x ∷ z) (take_more n xs ys)

-- what was cut off a line is cut off the longer one too
pub cut_more : (xs ys : List ℕ) → cut (cut xs ++ ys) ≡ cut (xs ++ ys)
cut_more xs ys = take_more 257 xs ys

le_or_more : (a b : ℕ) → (a ≤ b) ⊎ (b < a)
le_or_more zero b = inl (omega arith)
le_or_more (suc a) zero = inr (omega arith)
le_or_more (suc a) (suc b) = elim (le_or_more a b) [ inl p ↦ inl (omega (arith, p)) | inr q ↦ inr (omega (arith, q)) ]

-- a carriage return is one byte at most
bare_length : (xs : List ℕ) → length xs ≤ length (without_cr xs) + 1
bare_length [] = omega arith
bare_length (b ∷ []) = elim (b == 13) as (λ v. 1 ≤ length (if v then [] else b ∷ []) + 1) [ true ↦ omega arith | false ↦ omega arith ]
bare_length (b ∷ c ∷ xs) = omega (arith, bare_length (c ∷ xs))

-- a line of more than 255 bytes
long_line : (xs : List ℕ) → 256 ≤ length (without_cr xs) → line xs ≡ Line.Long
long_line xs many =
    let more : nat_lt 255 (length (without_cr xs)) ≡ true = grind (arith, nat_tests, many) in
    rw more refl

is_long : (xs : List ℕ) → 257 ≤ length xs → line xs ≡ Line.Long
is_long xs many = long_line xs (omega (arith, many, bare_length xs))

-- a line that asks a query has at most 255 bytes
pub ask_short : (xs : List ℕ) → IsAsk (line xs) → length (without_cr xs) ≤ 255
ask_short xs asks = elim (le_or_more (length (without_cr xs)) 255) [ inl p ↦ p | inr q ↦ absurd (subst IsAsk (long_line xs (omega (arith, q))) asks) ]

-- what is kept of a line says what the line says
pub same_line : (kept xs : List ℕ) → kept ≡ cut xs → line kept ≡ line xs
same_line kept xs e = elim (le_or_more (length xs) 257) [
  | inl p ↦ ap line (e ∙ take_all 257 xs p)
  | inr q ↦ is_long kept (omega (arith, ap length e, length-take-le 257 xs (omega (arith, q)))) ∙ sym (is_long xs (omega (arith, q)))
]
