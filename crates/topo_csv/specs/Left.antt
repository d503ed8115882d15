-- The records that a reader of bytes has left.
use Rattle.std.specs.Prelude.{◌≡◌, ℕ, ◌+◌, Bool, true, false, List, [], ◌∷◌, length, Option, Some, None, IsSome}
use Rattle.std.proofs.Common.{Bor}
use Rattle.csv.specs.Machine.{ends_at_end}
use Rattle.csv.specs.Reading.{Ready, default_config, is_flexible, reader_config, reader_state, reader_trim, records_from, source_of}
use Rattle.csv.specs.declared.parser.State.{State}
use Rattle.csv.specs.declared.reader.Reader.{Reader}
use Rattle.csv.specs.declared.reader.Trim.TheVariants as trim

-- the bytes that a reader has left, where it has not failed
abbrev pub bytes_left : Reader (Bor (List ℕ)) → Option (List ℕ)
bytes_left reader = source_of (λ bytes. Some bytes.now) reader

-- all records of these bytes, from a state on
abbrev pub records_of : Option (List ℕ) → State → List (List (List ℕ))
records_of None state = []
records_of (Some bytes) state = records_from default_config (length bytes + 1) state bytes

-- the records that a reader has left
unfoldable pub left_in : Reader (Bor (List ℕ)) → List (List (List ℕ))
left_in reader = records_of (bytes_left reader) (reader_state reader)

-- a reader that has not failed, stands between two records and gives each as it is
pub record IsReading (reader : Reader (Bor (List ℕ))) : Type 0 where
  pub dialect : reader_config reader ≡ default_config
  pub plain : reader_trim reader ≡ trim.None
  pub flexible : is_flexible reader ≡ true
  pub ready : Ready reader
  pub known : IsSome (bytes_left reader)
  pub between : ends_at_end (reader_state reader) ≡ false

-- the first record of those that were left and those behind it, or that none was left
abbrev pub GivesNext : List (List (List ℕ)) → Bool → List (List ℕ) → List (List (List ℕ)) → Type 0
GivesNext left true fields rest = left ≡ fields ∷ rest
GivesNext left false fields rest = (left ≡ []) × (fields ≡ [])
