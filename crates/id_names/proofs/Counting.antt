-- How many of a list pass a test, where those that do stand together.
use Rattle.std.proofs.Common.{◌≡◌, ℕ, zero, suc, ◌+◌, ◌<◌, ◌≤◌, Bool, true, false, List, [], ◌∷◌, length, get_or, refl, ap, ◌∙◌, arith}
use Rattle.std.specs.Prelude.{count_by, cond}
use Rattle.std.proofs.lemmas.List.Sums.{sum_by-cons}

pub count_yes : {X : Type 0} (p : X → Bool) (x : X) (xs : List X) → p x ≡ true → count_by p (x ∷ xs) ≡ 1 + count_by p xs
count_yes p x xs e = sum_by-cons (λ x. cond (p x) 1 0) x xs ∙ ap (λ b. cond b 1 0 + count_by p xs) e

pub count_no : {X : Type 0} (p : X → Bool) (x : X) (xs : List X) → p x ≡ false → count_by p (x ∷ xs) ≡ count_by p xs
count_no p x xs e = let f = sum_by-cons (λ x. cond (p x) 1 0) x xs ∙ ap (λ b. cond b 1 0 + count_by p xs) e in omega arith

none_pass : {X : Type 0} (p : X → Bool) (xs : List X) (e : X) → ((i : ℕ) → i < length xs → p (get_or xs i e) ≡ false) → count_by p xs ≡ 0
none_pass p [] e out = refl
none_pass p (x ∷ xs) e out =
    let more = none_pass p xs e (λ i h. out (suc i) (omega arith)) in
    omega (arith, count_no p x xs (out 0 (omega arith)))

first_pass : {X : Type 0} (p : X → Bool) (xs : List X) (to : ℕ) (e : X) → to ≤ length xs → ((i : ℕ) → i < to → p (get_or xs i e) ≡ true) → ((i : ℕ) → to ≤ i → i < length xs → p (get_or xs i e) ≡ false) → count_by p xs ≡ to
first_pass p xs zero e h on out = none_pass p xs e (λ i l. out i (omega arith) l)
first_pass p [] (suc to) e h on out = absurd (omega arith)
first_pass p (x ∷ xs) (suc to) e h on out =
    let more = first_pass p xs to e (omega arith) (λ i l. on (suc i) (omega arith)) (λ i l m. out (suc i) (omega arith) (omega arith)) in
    omega (arith, count_yes p x xs (on 0 (omega arith)))

-- the items from `from` to before `to` pass, and no others
pub range_pass : {X : Type 0} (p : X → Bool) (xs : List X) (from to : ℕ) (e : X) → from ≤ to → to ≤ length xs → ((i : ℕ) → i < from → p (get_or xs i e) ≡ false) → ((i : ℕ) → from ≤ i → i < to → p (get_or xs i e) ≡ true) → ((i : ℕ) → to ≤ i → i < length xs → p (get_or xs i e) ≡ false) → from + count_by p xs ≡ to
range_pass p xs zero to e h l before on out = let c = first_pass p xs to e l (λ i m. on i (omega arith) m) out in omega arith
range_pass p [] (suc from) to e h l before on out = absurd (omega arith)
range_pass p (x ∷ xs) (suc from) zero e h l before on out = absurd (omega arith)
range_pass p (x ∷ xs) (suc from) (suc to) e h l before on out =
    let more = range_pass p xs from to e (omega arith) (omega arith) (λ i m. before (suc i) (omega arith)) (λ i m n. on (suc i) (omega arith) (omega arith)) (λ i m n. out (suc i) (omega arith) (omega arith)) in
    omega (arith, count_no p x xs (before 0 (omega arith)))
