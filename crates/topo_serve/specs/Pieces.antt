-- Lines that come in pieces.
use Rattle.std.specs.Prelude.{ℕ, ◌==◌, if◌then◌else◌, List, [], ◌∷◌, ◌++◌, length, filter, take}
use Rattle.topo_base.specs.Script.{lines}

-- the lines of some bytes whose line feeds stand among them: as many as there are line feeds
abbrev pub ended_lines : List ℕ → List (List ℕ)
ended_lines bytes = take (length (filter (λ b. b == 10) bytes)) (lines bytes)

-- as much of a line as is kept: a line is long exactly where this much of it is
abbrev pub cut : List ℕ → List ℕ
cut bytes = take 257 bytes

-- the lines that end in some bytes, where these stand behind the front of a line
unfoldable pub ended_behind : List ℕ → List ℕ → List (List ℕ)
ended_behind front [] = []
ended_behind front (b ∷ bytes) = if b == 10 then front ∷ ended_behind [] bytes else ended_behind (front ++ b ∷ []) bytes

-- the front of the line that doesn't end in them
unfoldable pub open_behind : List ℕ → List ℕ → List ℕ
open_behind front [] = front
open_behind front (b ∷ bytes) = if b == 10 then open_behind [] bytes else open_behind (front ++ b ∷ []) bytes

-- the line whose front is kept, where it ends in these bytes
abbrev pub front_ended : List ℕ → List ℕ → List (List ℕ)
front_ended [] bytes = []
front_ended (b ∷ front) bytes = take 1 (ended_behind (b ∷ front) bytes)

-- a last line without a line feed, which is one only where it has a byte
abbrev pub last_line : List ℕ → List (List ℕ)
last_line [] = []
last_line (b ∷ bytes) = (b ∷ bytes) ∷ []
