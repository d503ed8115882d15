-- Counts of ones before each block of 512 bits.
use Rattle.std.specs.Prelude.{ℕ, ◌≡◌, ◌<◌, ◌≤◌, ◌+◌, ◌*◌, ◌/◌, Bool, true, false, List, length, slice_index_or}
use Rattle.bit_words.specs.Lists.{tabulate}
use Rattle.bit_words.specs.Bits.{rank, is_set, same}

-- how many blocks of 512 bits n bits have, the last one maybe in part
abbrev pub blocks : ℕ → ℕ
blocks n = (n + 511) / 512

-- the ones before each block, and at the end all ones
unfoldable pub counts_of : List Bool → List ℕ
counts_of bits = tabulate (blocks (length bits) + 1) (λ j. rank true bits (512 * j))

-- the 64 bits of a chunk: 1 where the bit of the list at word `word` is of this kind, anything past the end of the list
pub record KindChunk (kind : Bool) (bits : List Bool) (word chunk : ℕ) : Type 0 where
  pub agree : (k : ℕ) → k < 64 → 64 * word + k < length bits → is_set chunk k ≡ same kind (slice_index_or bits (64 * word + k) false)

-- the block of bit j of a kind is from block `low` on and before block `high`
pub record Brackets (kind : Bool) (bits : List Bool) (j low high : ℕ) : Type 0 where
  pub order : low < high
  pub within : high ≤ blocks (length bits)
  pub below : rank kind bits (512 * low) ≤ j
  pub above : j < rank kind bits (512 * high)
