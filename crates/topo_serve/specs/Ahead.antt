-- Lines to come that were read ahead.
use Rattle.std.specs.Prelude.{◌≡◌, ◌<◌, ℕ, ◌+◌, slice_index, List, [], ◌∷◌, length, take, drop}
use Rattle.topo_base.specs.Script.{line}
use Rattle.query_text.specs.Lines.{HasNoFeed, line_of}
use Rattle.topo_serve.specs.declared.ahead.LineAhead.{LineAhead}

-- the bytes of lines, where the first of them begins these bytes, and each other one stands behind the line feed before
unfoldable pub texts : List LineAhead → List ℕ → List (List ℕ)
texts [] bytes = []
texts (l ∷ ls) bytes = take l.end bytes ∷ texts ls (drop (l.end + 1) bytes)

-- the bytes behind the last line feed of them
unfoldable pub behind : List LineAhead → List ℕ → List ℕ
behind [] bytes = bytes
behind (l ∷ ls) bytes = behind ls (drop (l.end + 1) bytes)

-- the line that begins these bytes: it ends at their first line feed, and says this
pub record IsNext (l : LineAhead) (bytes : List ℕ) : Type 0 where
  pub within : l.end < length bytes
  pub feed : slice_index bytes l.end ≡ 10
  pub first : HasNoFeed l.end bytes
  pub said : line_of l.query ≡ line (take l.end bytes)

-- the lines that begin these bytes, one behind the other
unfoldable pub AreNext : List LineAhead → List ℕ → Type 0
AreNext [] bytes = Unit {0}
AreNext (l ∷ ls) bytes = IsNext l bytes × AreNext ls (drop (l.end + 1) bytes)
