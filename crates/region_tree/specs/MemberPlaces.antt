-- Members with the numbers of their regions.
use Rattle.std.specs.Prelude.{ℕ, ◌≡◌, ◌<◌, List, length, slice_get, slice_index, Some}
use Rattle.plane_model.specs.declared.rows.MemberRow.{MemberRow}
use Rattle.region_tree.specs.declared.parts.MemberPlace.{MemberPlace}

-- a member's face, and the number at the place of its region's id
pub record IsMemberPlace (ids numbers : List ℕ) (row : MemberRow) (member : MemberPlace) : Type 0 where
  pub place : ℕ
  pub within : place < length ids
  pub id : slice_index ids place ≡ row.region
  pub number : member.region ≡ slice_index numbers place
  pub face : member.face ≡ row.face

-- the first n rows with their numbers
pub record AreFirstMemberPlaces (ids numbers : List ℕ) (rows : List MemberRow) (n : ℕ) (members : List MemberPlace) : Type 0 where
  pub many : length members ≡ n
  pub at : (k : ℕ) (row : MemberRow) (member : MemberPlace) → slice_get rows k ≡ Some row → slice_get members k ≡ Some member → IsMemberPlace ids numbers row member

abbrev pub AreMemberPlaces : List ℕ → List ℕ → List MemberRow → List MemberPlace → Type 0
AreMemberPlaces ids numbers rows members = AreFirstMemberPlaces ids numbers rows (length rows) members

-- the number of each place in an order
pub record AreNumbersOf (order numbers : List ℕ) : Type 0 where
  pub many : length numbers ≡ length order
  pub number : (x : ℕ) → x < length order → slice_index numbers (slice_index order x) ≡ x
