-- Ids and numbers by the places of ids in rising order.
use Rattle.std.specs.Prelude.{ℕ, ◌≡◌, ◌<◌, List, length, slice_index}
use Rattle.plane_model.specs.Sets.{rising}

-- the id at a place of the ids in rising order
abbrev pub id_at_rank : List ℕ → ℕ → ℕ
id_at_rank ids place = slice_index (rising ids) place

-- each place has a number whose id stands there
pub record AreByRank (ids numbers : List ℕ) : Type 0 where
  pub size : length numbers ≡ length ids
  pub within : (place : ℕ) → place < length ids → slice_index numbers place < length ids
  pub id : (place : ℕ) → place < length ids → slice_index ids (slice_index numbers place) ≡ id_at_rank ids place
