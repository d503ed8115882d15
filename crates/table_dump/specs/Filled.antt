-- Ends of positions that are filled for the first of them.
use Rattle.std.specs.Prelude.{ℕ, ℤ, ◌≡◌, ◌<◌, ◌+◌, false, List}
use Rattle.code_laws.specs.Code.{Code, after, over}
use Rattle.table_dump.specs.Ends.{face_in, next_in, node_in}

-- an end has the sides of a position
pub record HasSides (node_of face_of : ℕ → ℕ) (ends : List ℕ) (e p : ℕ) : Type 0 where
  pub node : node_in ends e ≡ node_of p
  pub face : face_in ends e ≡ face_of p

-- by the end, the sides and the signed edge of each position: the ends of the positions before p have their sides, and
-- those that these follow on, but for the last of them, the signed edge that comes next
pub record AreFilled (k : Code) (end_of node face : ℕ → ℕ) (signed : ℕ → ℤ) (ends : List ℕ) (p : ℕ) : Type 0 where
  pub sides : (q : ℕ) → q < p → HasSides node face ends (end_of q) q
  pub next : (q : ℕ) → q + 1 < p → next_in ends (end_of (over k false q)) ≡ signed (after k q)
