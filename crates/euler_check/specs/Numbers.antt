-- Numbers of darts, by the parts of the signed edges that they belong to.
use Rattle.std.specs.Prelude.{◌≡◌, ℕ, ◌*◌, ◌<◌, ◌↔◌, ℤ, IsTrue, List, length, slice_index}
use Rattle.plane_model.specs.declared.rows.EdgeRow.{EdgeRow}
use Rattle.plane_model.specs.Sets.{has_edge}
use Rattle.rotation_check.specs.Darts.{signed_edge}

-- a number of each dart, and how many different ones there are
pub record Numbers : Type 0 where
  pub count : ℕ
  pub of_darts : List ℕ

-- the first dart that has a number
pub record IsFirstDart (of_darts : List ℕ) (number dart : ℕ) : Type 0 where
  pub within : dart < length of_darts
  pub has : slice_index of_darts dart ≡ number
  pub none_before : (d : ℕ) → d < dart → slice_index of_darts d ≡ number → ⊥

-- Each dart has the number of its part, and two darts have one exactly where the part of the one has the other;
-- the numbers are those below the count, and a part that begins with an earlier dart has the lower number.
pub record ArePartNumbers (edges : List EdgeRow) (part : ℤ → List ℤ) (numbers : Numbers) : Type 0 where
  pub size : length numbers.of_darts ≡ 2 * length edges
  pub below : (d : ℕ) → d < 2 * length edges → slice_index numbers.of_darts d < numbers.count
  pub same : (d e : ℕ) → d < 2 * length edges → e < 2 * length edges → (slice_index numbers.of_darts d ≡ slice_index numbers.of_darts e) ↔ IsTrue (has_edge (part (signed_edge edges d)) (signed_edge edges e))
  pub first : (k : ℕ) → k < numbers.count → (d : ℕ) × IsFirstDart numbers.of_darts k d
  pub in_order : (j k d e : ℕ) → j < k → IsFirstDart numbers.of_darts j d → IsFirstDart numbers.of_darts k e → d < e
