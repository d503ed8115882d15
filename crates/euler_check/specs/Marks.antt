-- Darts that get their numbers part by part.
use Rattle.std.specs.Prelude.{◌≡◌, ℕ, zero, suc, ◌+◌, ◌*◌, ◌<◌, ℤ, IsFalse, IsTrue, List, length, Option, Some, None, slice_index_or}
use Rattle.plane_model.specs.declared.rows.EdgeRow.{EdgeRow}
use Rattle.plane_model.specs.Sets.{has_edge}
use Rattle.rotation_check.specs.Darts.{signed_edge}

-- the number that an entry of a table stands for
unfoldable pub number_in : ℕ → Option ℕ
number_in zero = None
number_in (suc number) = Some number

-- the number of a dart that has one
abbrev pub number_at : List (Option ℕ) → ℕ → Option ℕ
number_at numbers dart = slice_index_or numbers dart None

-- the darts of some signed edges get a number, and no others
pub record DartsGetNumber (edges : List EdgeRow) (part : List ℤ) (number : ℕ) (old new : List (Option ℕ)) : Type 0 where
  pub size : length new ≡ length old
  pub inside : (d : ℕ) → d < 2 * length edges → IsTrue (has_edge part (signed_edge edges d)) → number_at new d ≡ Some number
  pub outside : (d : ℕ) → d < 2 * length edges → IsFalse (has_edge part (signed_edge edges d)) → number_at new d ≡ number_at old d

-- The first k darts have the numbers of their parts, and so have the others of these parts; numbers are given in the
-- order of the first darts.
pub record FirstAreNumbered (edges : List EdgeRow) (part : ℤ → List ℤ) (k count : ℕ) (numbers : List (Option ℕ)) : Type 0 where
  pub size : length numbers ≡ 2 * length edges
  pub few : count < k + 1
  pub below : (d x : ℕ) → d < 2 * length edges → number_at numbers d ≡ Some x → x < count
  pub one : (d e x : ℕ) → d < 2 * length edges → e < 2 * length edges → number_at numbers d ≡ Some x → number_at numbers e ≡ Some x → IsTrue (has_edge (part (signed_edge edges d)) (signed_edge edges e))
  pub whole : (d e x : ℕ) → d < 2 * length edges → e < 2 * length edges → number_at numbers d ≡ Some x → IsTrue (has_edge (part (signed_edge edges d)) (signed_edge edges e)) → number_at numbers e ≡ Some x
  pub done : (d : ℕ) → d < k → (x : ℕ) × (number_at numbers d ≡ Some x)
  pub first : (x : ℕ) → x < count → (d : ℕ) × (d < k) × (number_at numbers d ≡ Some x) × ((e : ℕ) → e < d → number_at numbers e ≡ Some x → ⊥)
  pub earlier : (d x y : ℕ) → d < 2 * length edges → number_at numbers d ≡ Some x → y < x → (e : ℕ) × (e < d) × (number_at numbers e ≡ Some y)
