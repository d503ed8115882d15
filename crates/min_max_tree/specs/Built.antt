-- How far words are those of a tree.
use Rattle.std.specs.Prelude.{ℕ, ◌≡◌, ◌<◌, List, length, slice_index}

-- the first n words are those of the tree
pub record HoldsFirst (tree words : List ℕ) (n : ℕ) : Type 0 where
  pub same : (k : ℕ) → k < n → slice_index words k ≡ slice_index tree k

-- these are the first n words of the tree
pub record Built (tree words : List ℕ) (n : ℕ) : Type 0 where
  pub size : length words ≡ n
  pub holds : HoldsFirst tree words n
