-- Digits behind a number.
use Rattle.std.proofs.Common.{◌≡◌, ℕ, suc, ◌+◌, ◌*◌, ◌-◌, ◌<◌, ◌≤◌, true, false, List, [], ◌∷◌, length, drop, get_or, Option, Some, None, refl, sym, ap, ◌∙◌, arith, drop-cons, leb, inl, inr}
use Rattle.std.specs.Prelude.{option_and_then}
use Rattle.std.specs.Char.{is_ascii_digit}
use Rattle.std.proofs.lemmas.Bool.{cases_Bool, and_right, lt-leb, le-leb}
use Rattle.topo_base.specs.Spelling.{digits_behind, in_range}
use Rattle.topo_base.specs.declared.id.TheConstants.{LARGEST_ID}

pub digit_next : (n b : ℕ) (xs : List ℕ) → is_ascii_digit b ≡ true → digits_behind n (b ∷ xs) ≡ digits_behind (10 * n + (b - 48)) xs
unfolding digits_behind
digit_next n b xs h = rw h refl

pub no_digit : (n b : ℕ) (xs : List ℕ) → is_ascii_digit b ≡ false → digits_behind n (b ∷ xs) ≡ None
unfolding digits_behind
no_digit n b xs h = rw h refl

pub no_more : (n : ℕ) → digits_behind n [] ≡ Some n
unfolding digits_behind
no_more n = refl

pub too_great : (n : ℕ) (xs : List ℕ) → LARGEST_ID < n → option_and_then (in_range 0) (digits_behind n xs) ≡ None
unfolding digits_behind
too_great n [] h = rw (and_right (leb 0 n) (leb n LARGEST_ID) (lt-leb n LARGEST_ID h)) refl
too_great n (b ∷ xs) h = elim (cases_Bool (is_ascii_digit b)) [ inl e ↦ rw e (too_great (10 * n + (b - 48)) xs (omega arith)) | inr e ↦ rw e refl ]

-- one digit further on
pub behind_at : (bytes : List ℕ) (i n : ℕ) (all : Option ℕ) → i < length bytes → digits_behind n (drop i bytes) ≡ all → is_ascii_digit (get_or bytes i 0) ≡ true
    → digits_behind (10 * n + (get_or bytes i 0 - 48)) (drop (suc i) bytes) ≡ all
behind_at bytes i n all lt e h = sym (digit_next n (get_or bytes i 0) (drop (suc i) bytes) h) ∙ ap (digits_behind n) (sym (drop-cons bytes i 0 lt)) ∙ e

pub none_at : (bytes : List ℕ) (i n : ℕ) (all : Option ℕ) → i < length bytes → digits_behind n (drop i bytes) ≡ all → is_ascii_digit (get_or bytes i 0) ≡ false → None ≡ all
none_at bytes i n all lt e h = sym (no_digit n (get_or bytes i 0) (drop (suc i) bytes) h) ∙ ap (digits_behind n) (sym (drop-cons bytes i 0 lt)) ∙ e

pub within : (n : ℕ) → n ≤ LARGEST_ID → in_range 0 n ≡ Some n
within n h = rw (le-leb 0 n (omega arith), le-leb n LARGEST_ID h) refl
