-- The names that a file's sections hold, part by part.
use Rattle.std.proofs.Common.{◌≡◌, ℕ, ◌+◌, Bool, List, refl}
use Rattle.id_names.specs.RisingNames.{RisingNames}
use Rattle.id_names.specs.Faults.{name_fault}
use Rattle.file_laws.specs.Layout.{counts_in, section, bits_at, fields_at}
use Rattle.file_laws.specs.Held.{names_at}
use Rattle.file_laws.specs.Faults.{names_fault}

abbrev pub names_with : List Bool → List ℕ → ℕ → List ℕ → List Bool → List ℕ → RisingNames
names_with high lows low places marks back = record { high = high; lows = lows; low = low; places = places; marks = marks; back = back }

pub names-are : (words : List ℕ) (n : ℕ) (high marks : List Bool) (lows places back : List ℕ) (low : ℕ)
    → high ≡ bits_at words (n + 1) → lows ≡ fields_at words (n + 3) → low ≡ (section (counts_in words) (n + 3)).width → places ≡ fields_at words (n + 4) → marks ≡ bits_at words (n + 5) → back ≡ fields_at words (n + 7)
    → names_with high lows low places marks back ≡ names_at words n
unfolding names_at
names-are words n high marks lows places back low a b d e f g = rw (a, b, d, e, f, g) refl

pub fault-is : (words : List ℕ) (n : ℕ) (p : RisingNames) (high_counts mark_counts : List ℕ) → p ≡ names_at words n → high_counts ≡ fields_at words (n + 2) → mark_counts ≡ fields_at words (n + 6)
    → name_fault p high_counts mark_counts ≡ names_fault words n
unfolding names_fault
fault-is words n p high_counts mark_counts a b d = rw (a, b, d) refl
