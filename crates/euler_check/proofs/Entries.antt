-- Entries of a table, and the numbers that they stand for.
use Rattle.std.proofs.Common.{◌≡◌, ℕ, zero, suc, ◌+◌, ◌-◌, ◌<◌, ◌==◌, not, List, [], ◌∷◌, ◌++◌, map, take, drop, set, length, get_or, replicate, refl, ap, add-one, arith, Option, None, Some, is_some}
use Rattle.std.specs.Prelude.{unwrap_or}
use Rattle.euler_check.specs.Marks.{number_in, number_at}

pub none_in : (n : ℕ) → map number_in (replicate n 0) ≡ replicate n None
unfolding number_in
none_in zero = refl
none_in (suc n) = ap (λ (xs : List (Option ℕ)). None ∷ xs) (none_in n)

pub some_in : (x : ℕ) → number_in (x + 1) ≡ Some x
unfolding number_in
some_in x = rw add-one refl

value_in : (entry : ℕ) → entry - 1 ≡ unwrap_or (number_in entry) 0
unfolding number_in
value_in zero = refl
value_in (suc x) = omega arith

pub values_in : (entries : List ℕ) → map (λ e. e - 1) entries ≡ map (λ n. unwrap_or n 0) (map number_in entries)
values_in [] = refl
values_in (x ∷ xs) = rw (value_in x, values_in xs) refl

is_one : (entry : ℕ) → not (entry == 0) ≡ is_some (number_in entry)
unfolding number_in
is_one zero = refl
is_one (suc x) = grind (arith)

pub has_in : (entries : List ℕ) (d : ℕ) → not (get_or entries d 0 == 0) ≡ is_some (number_at (map number_in entries) d)
has_in [] d = refl
has_in (x ∷ xs) zero = is_one x
has_in (x ∷ xs) (suc d) = has_in xs d

-- where the entries before one have become less
pub same_entry : (old : List ℕ) (i : ℕ) → get_or (map (λ e. e - 1) (take i old) ++ drop i old) i 0 ≡ get_or old i 0
same_entry [] zero = refl
same_entry [] (suc i) = refl
same_entry (x ∷ xs) zero = refl
same_entry (x ∷ xs) (suc i) = same_entry xs i

pub one_less : (old : List ℕ) (i : ℕ) → i < length old → set (map (λ e. e - 1) (take i old) ++ drop i old) i (get_or old i 0 - 1) ≡ map (λ e. e - 1) (take (suc i) old) ++ drop (suc i) old
one_less [] i h = absurd (omega arith)
one_less (x ∷ xs) zero h = refl
one_less (x ∷ xs) (suc i) h = ap (λ ys. (x - 1) ∷ ys) (one_less xs i (omega arith))
