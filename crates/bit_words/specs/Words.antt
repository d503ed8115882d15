-- The words that bytes stand for.
use Rattle.std.specs.Prelude.{ℕ, zero, suc, List, [], ◌∷◌, drop}
use Rattle.byteorder.specs.Endian.{little_number}

-- the first n words of these bytes, the lowest byte of each first
unfoldable pub words_in : ℕ → List ℕ → List ℕ
words_in zero bytes = []
words_in (suc n) bytes = little_number 8 bytes ∷ words_in n (drop 8 bytes)
