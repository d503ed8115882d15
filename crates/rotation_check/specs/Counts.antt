-- How often numbers stand in a list, and where.
use Rattle.std.specs.Prelude.{◌≡◌, ℕ, ◌<◌, List, length, slice_index}
use Rattle.plane_model.specs.Orders.{how_often}

-- how often each number below the bound stands among the values
pub record AreCountsOfEach (values : List ℕ) (bound : ℕ) (counts : List ℕ) : Type 0 where
  pub size : length counts ≡ bound
  pub count : (x : ℕ) → x < bound → slice_index counts x ≡ how_often values x

-- for each number among the values, a place where it stands
pub record ArePlacesOfEach (values : List ℕ) (bound : ℕ) (places : List ℕ) : Type 0 where
  pub size : length places ≡ bound
  pub within : (k : ℕ) → k < length values → slice_index places (slice_index values k) < length values
  pub stands : (k : ℕ) → k < length values → slice_index values (slice_index places (slice_index values k)) ≡ slice_index values k
