-- The first entry of a table of numbers that is not what it should be.
use Rattle.std.specs.Prelude.{ℕ, ◌≡◌, ◌≢◌, ◌<◌, ◌==◌, not, List, length, slice_index, find, Option, option_map}
use Rattle.std.specs.List.{range_with_len}
use Rattle.bit_words.specs.declared.wrong_entry.WrongEntry.{WrongEntry}

-- the first place where what was found differs from what was wanted, with both
pub record IsFirstWrong (want found : List ℕ) (wrong : WrongEntry) : Type 0 where
  pub within : wrong.at < length want
  pub wanted : wrong.want ≡ slice_index want wrong.at
  pub was : wrong.found ≡ slice_index found wrong.at
  pub differs : wrong.want ≢ wrong.found
  pub first : (k : ℕ) → k < wrong.at → slice_index found k ≡ slice_index want k

-- entry j, with what is wanted there and what was found
abbrev pub wrong_entry : List ℕ → List ℕ → ℕ → WrongEntry
wrong_entry want found j = record { at = j; want = slice_index want j; found = slice_index found j }

-- the first wrong entry as a function, none where all are right
unfoldable pub first_wrong : List ℕ → List ℕ → Option WrongEntry
first_wrong want found = option_map (wrong_entry want found) (find (λ j. not (slice_index want j == slice_index found j)) (range_with_len 0 (length want)))
