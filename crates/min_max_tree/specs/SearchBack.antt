-- Where an excess was last at a value, and how a search back for that place goes on.
use Rattle.std.specs.Prelude.{ℕ, ◌≡◌, ◌<◌, ◌≤◌, ◌+◌, ◌-◌, ◌/◌, ℤ, pos, ◌+ℤ◌, ◌-ℤ◌, ◌<ℤ◌, ◌≤ℤ◌, Bool, List, length}
use Rattle.bit_words.specs.Bits.{excess}
use Rattle.min_max_tree.specs.Tree.{size_at, node_from, node_to, total_of, least_of}
use Rattle.min_max_tree.specs.Level.{IsLevel}
use Rattle.min_max_tree.specs.declared.scan.Scan.{Scan}
use Rattle.min_max_tree.specs.declared.scan.Scan.TheVariants.{Found, Above}
use Rattle.min_max_tree.specs.declared.view.Spot.{Spot}
use Rattle.min_max_tree.specs.declared.view.Side.{Side}
use Rattle.min_max_tree.specs.declared.view.Side.TheVariants.{Reached, Passed}

-- the excess is above t from place low to before place high
pub record WasAbove (bits : List Bool) (t : ℤ) (low high : ℕ) : Type 0 where
  pub above : (p : ℕ) → low ≤ p → p < high → t <ℤ excess bits p

-- place p is the last before high where the excess is t
pub record Leaves (bits : List Bool) (t : ℤ) (low high p : ℕ) : Type 0 where
  pub from : low ≤ p
  pub before : p < high
  pub here : excess bits p ≡ t
  pub after : (q : ℕ) → p < q → q < high → t <ℤ excess bits q

-- at place low the excess is still `left` above t, which was `need` below that of place high
pub record Remains (bits : List Bool) (t : ℤ) (low high need left : ℕ) : Type 0 where
  pub was : WasAbove bits t low high
  pub level : excess bits low ≡ t +ℤ pos left
  pub some : 1 ≤ left
  pub few : left + low ≤ need + high

-- what a scan back from high to low for a drop of `need` answers
abbrev pub ScannedBack : List Bool → ℕ → ℕ → ℕ → Scan → Type 0
ScannedBack bits need low high (Found p) = Leaves bits (excess bits high -ℤ pos need) low high p
ScannedBack bits need low high (Above left) = Remains bits (excess bits high -ℤ pos need) low high need left

-- a node, at whose end the excess is `need` above one that it has before
pub record IsSpotBack (bits : List Bool) (spot : Spot) : Type 0 where
  pub level : IsLevel (length bits) spot.level
  pub within : spot.j < size_at (length bits) spot.level.height
  pub some : 1 ≤ spot.need
  pub reaches : (least_of bits spot.level.height spot.j +ℤ pos spot.need) ≤ℤ total_of bits spot.level.height spot.j

-- what a look at a node answers, where the excess at its end is `need` above the one that is searched
abbrev pub PassesBack : List Bool → ℕ → ℕ → ℕ → Side → Type 0
PassesBack bits h j need Reached = (least_of bits h j +ℤ pos need) ≤ℤ total_of bits h j
PassesBack bits h j need (Passed left) =
    Remains bits (excess bits (node_to (length bits) h j) -ℤ pos need) (node_from h j) (node_to (length bits) h j) need left

-- a spot further back, to whose end the excess stays above the one that is searched
pub record LeadsBack (bits : List Bool) (high need : ℕ) (spot : Spot) : Type 0 where
  pub is_spot : IsSpotBack bits spot
  pub order : node_to (length bits) spot.level.height spot.j ≤ high
  pub remains : Remains bits (excess bits high -ℤ pos need) (node_to (length bits) spot.level.height spot.j) high need spot.need

-- what a look at the node before says at the start of node j: the place is in that node, or the need at the start of
-- their parent
abbrev pub SiblingBack : List Bool → ℕ → ℕ → ℕ → Side → Type 0
SiblingBack bits h j need Reached = (0 < j) × ((least_of bits h (j - 1) +ℤ pos need) ≤ℤ total_of bits h (j - 1))
SiblingBack bits h j need (Passed left) =
    Remains bits (excess bits (node_from h j) -ℤ pos need) (node_from (h + 1) (j / 2)) (node_from h j) need left
