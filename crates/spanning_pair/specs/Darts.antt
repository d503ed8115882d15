-- Darts, rotation systems and components. Edge i has the darts 2 * i and 2 * i + 1.
use Rattle.std.specs.Prelude.{◌≡◌, ℕ, ◌*◌, ◌<◌}
use Rattle.orbits.specs.Walks as walks
use Rattle.orbits.specs.Components as sets
use Rattle.rotation_check.specs.Darts as rotation

-- the other dart of the edge
unfoldable pub reverse_dart : ℕ → ℕ
reverse_dart d = rotation.reverse_dart d

-- the next dart among those that leave the same node
abbrev pub turn : (ℕ → ℕ) → ℕ → ℕ
turn next d = next (reverse_dart d)

-- the dart that comes after k turns
abbrev pub turned : (ℕ → ℕ) → ℕ → ℕ → ℕ
turned next k d = walks.stepped (turn next) k d

-- `next` permutes the darts, and the darts that leave a node are one orbit of `turn`
pub record IsDartSystem (edges : ℕ) (next node : ℕ → ℕ) : Type 0 where
  pub next_below : (d : ℕ) → d < 2 * edges → next d < 2 * edges
  pub next_once : (d e : ℕ) → d < 2 * edges → e < 2 * edges → next d ≡ next e → d ≡ e
  pub follows : (d : ℕ) → d < 2 * edges → node (next d) ≡ node (reverse_dart d)
  pub round : (d e : ℕ) → d < 2 * edges → e < 2 * edges → node d ≡ node e → (k : ℕ) × (turned next k d ≡ e)

-- the component of a dart: the least set that holds it and is closed under `reverse_dart` and `turn`
abbrev pub InComponent : (ℕ → ℕ) → ℕ → ℕ → Type 0
InComponent next start d = sets.InComponent reverse_dart (turn next) start d
