-- Levels and nodes of the tree as code keeps them, and what a look at one says.
use Rattle.std.specs.Prelude.{ℕ, ◌≡◌, ◌<◌, ◌≤◌, ◌+◌, ◌/◌, pos, ◌+ℤ◌, ◌-ℤ◌, ◌≤ℤ◌, Bool, List, length}
use Rattle.bit_words.specs.Bits.{excess}
use Rattle.min_max_tree.specs.Search.{Rests}
use Rattle.min_max_tree.specs.Tree.{span_at, size_at, start_at, node_from, node_to, least_of}
use Rattle.min_max_tree.specs.declared.level.Level.{Level}
use Rattle.min_max_tree.specs.declared.view.Spot.{Spot}
use Rattle.min_max_tree.specs.declared.view.Side.{Side}
use Rattle.min_max_tree.specs.declared.view.Side.TheVariants.{Reached, Passed}

-- a level of the tree over so many bits
pub record IsLevel (len : ℕ) (level : Level) : Type 0 where
  pub span : level.span ≡ span_at level.height
  pub start : level.start ≡ start_at len level.height
  pub reached : (g : ℕ) → g < level.height → 1 < size_at len g

-- a node, at whose first place the excess is `need` above one that it reaches
pub record IsSpot (bits : List Bool) (spot : Spot) : Type 0 where
  pub level : IsLevel (length bits) spot.level
  pub within : spot.j < size_at (length bits) spot.level.height
  pub some : 1 ≤ spot.need
  pub reaches : (least_of bits spot.level.height spot.j +ℤ pos spot.need) ≤ℤ pos 0

-- what a look at a node answers, where the excess at its first place is `need` above the one that is searched
abbrev pub Passes : List Bool → ℕ → ℕ → ℕ → Side → Type 0
Passes bits h j need Reached = (least_of bits h j +ℤ pos need) ≤ℤ pos 0
Passes bits h j need (Passed left) =
    Rests bits (excess bits (node_from h j) -ℤ pos need) (node_from h j) (node_to (length bits) h j) need left

-- what a look at the next node says at the end of node j: the place is in the next, or the need at the end of their
-- parent
abbrev pub Sibling : List Bool → ℕ → ℕ → ℕ → Side → Type 0
Sibling bits h j need Reached = (j + 1 < size_at (length bits) h) × ((least_of bits h (j + 1) +ℤ pos need) ≤ℤ pos 0)
Sibling bits h j need (Passed left) =
    Rests bits (excess bits (node_to (length bits) h j) -ℤ pos need) (node_to (length bits) h j) (node_to (length bits) (h + 1) (j / 2)) need left

-- a spot further on, to which the excess stays above the one that is searched
pub record LeadsTo (bits : List Bool) (low need : ℕ) (spot : Spot) : Type 0 where
  pub is_spot : IsSpot bits spot
  pub order : low ≤ node_from spot.level.height spot.j
  pub rests : Rests bits (excess bits low -ℤ pos need) low (node_from spot.level.height spot.j) need spot.need
