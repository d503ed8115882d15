-- Where an excess falls to a value, and how a search for that place goes on.
use Rattle.std.specs.Prelude.{ℕ, ◌≡◌, ◌<◌, ◌≤◌, ◌+◌, ℤ, pos, ◌+ℤ◌, ◌-ℤ◌, ◌<ℤ◌, Bool, List}
use Rattle.bit_words.specs.Bits.{excess}
use Rattle.min_max_tree.specs.declared.scan.Scan.{Scan}
use Rattle.min_max_tree.specs.declared.scan.Scan.TheVariants.{Found, Above}

-- the excess stays above t from after place low to place high
pub record StaysAbove (bits : List Bool) (t : ℤ) (low high : ℕ) : Type 0 where
  pub above : (p : ℕ) → low < p → p ≤ high → t <ℤ excess bits p

-- place p is the first after low where the excess is t
pub record Reaches (bits : List Bool) (t : ℤ) (low high p : ℕ) : Type 0 where
  pub after : low < p
  pub within : p ≤ high
  pub here : excess bits p ≡ t
  pub before : (q : ℕ) → low < q → q < p → t <ℤ excess bits q

-- at place high the excess is still `left` above t, which was `need` below that of place low
pub record Rests (bits : List Bool) (t : ℤ) (low high need left : ℕ) : Type 0 where
  pub stays : StaysAbove bits t low high
  pub level : excess bits high ≡ t +ℤ pos left
  pub some : 1 ≤ left
  pub few : left + low ≤ need + high

-- what a scan from low to high for a drop of `need` answers
abbrev pub Scanned : List Bool → ℕ → ℕ → ℕ → Scan → Type 0
Scanned bits need low high (Found p) = Reaches bits (excess bits low -ℤ pos need) low high p
Scanned bits need low high (Above left) = Rests bits (excess bits low -ℤ pos need) low high need left
