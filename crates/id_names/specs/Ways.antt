-- Ways along the places from a marked number to the next marked one, cycles without a mark, and what lies on them.
use Rattle.std.specs.Prelude.{ℕ, ◌≡◌, ◌+◌, ◌<◌, ◌≤◌, Bool, true, false, if◌then◌else◌, List, length, slice_index, slice_index_or}
use Rattle.std.specs.Option.{is_some}
use Rattle.orbits.specs.Walks.{stepped}
use Rattle.id_names.specs.Inverse.{stride, back_from, number_at}
use Rattle.id_names.specs.declared.ways.Way.{Way}

-- the number that so many steps along the places lead to
abbrev pub after : List ℕ → ℕ → ℕ → ℕ
after places k x = stepped (slice_index places) k x

-- whether the number there is marked
abbrev pub is_marked : List ℕ → List Bool → ℕ → ℕ → Bool
is_marked places marks k x = slice_index_or marks (after places k x) false

-- From a marked number the next marked one is so many steps away, and points back to it.
pub record IsWay (places : List ℕ) (marks : List Bool) (back : List ℕ) (mark count : ℕ) : Type 0 where
  pub some : 1 ≤ count
  pub few : count ≤ stride (length places)
  pub within : (k : ℕ) → k ≤ count → after places k mark < length places
  pub free : (k : ℕ) → 1 ≤ k → k < count → is_marked places marks k mark ≡ false
  pub marked : is_marked places marks count mark ≡ true
  pub points : back_from marks back (after places count mark) ≡ mark

-- a way from a mark, of which no step is taken
abbrev pub begun : ℕ → Way
begun mark = record { mark = mark; number = mark; passed = 0; has_ended = false }

-- A way from a mark is followed up to a number: no mark lies between, and whether the number is the next one is known.
pub record IsFollowed (places : List ℕ) (marks : List Bool) (way : Way) : Type 0 where
  pub at : way.number ≡ after places way.passed way.mark
  pub within : (k : ℕ) → k ≤ way.passed → after places k way.mark < length places
  pub free : (k : ℕ) → 1 ≤ k → k < way.passed → is_marked places marks k way.mark ≡ false
  pub last : 1 ≤ way.passed → is_marked places marks way.passed way.mark ≡ way.has_ended
  pub some : way.has_ended ≡ true → 1 ≤ way.passed

-- A number is the least of a cycle of so many, none of them marked.
pub record IsShortCycle (places : List ℕ) (marks : List Bool) (least count : ℕ) : Type 0 where
  pub some : 1 ≤ count
  pub few : count ≤ stride (length places) + 1
  pub within : (k : ℕ) → k < count → after places k least < length places
  pub free : (k : ℕ) → k < count → is_marked places marks k least ≡ false
  pub above : (k : ℕ) → 1 ≤ k → k < count → least < after places k least
  pub ends : after places count least ≡ least

-- A place from which the walk comes to a number, and from which the next mark points back to a number below `bound`.
pub record IsOnWay (places : List ℕ) (marks : List Bool) (back : List ℕ) (bound place : ℕ) : Type 0 where
  pub within : place < length places
  pub found : is_some (number_at places marks back place) ≡ true
  pub far : ℕ
  pub free : (k : ℕ) → k < far → is_marked places marks k place ≡ false
  pub marked : is_marked places marks far place ≡ true
  pub before : back_from marks back (after places far place) < bound

-- A place from which the walk comes to a number, and from which steps lead to no mark, but to a number below `bound`
-- that is the least they lead to.
pub record IsOnCycle (places : List ℕ) (marks : List Bool) (back : List ℕ) (bound place : ℕ) : Type 0 where
  pub within : place < length places
  pub found : is_some (number_at places marks back place) ≡ true
  pub free : (k : ℕ) → is_marked places marks k place ≡ false
  pub far : ℕ
  pub least : (k : ℕ) → after places far place ≤ after places k place
  pub before : after places far place < bound

-- the number that a place points back to, and its own where it has no mark
abbrev pub pointed_from : List Bool → List ℕ → ℕ → ℕ
pointed_from marks back place = if slice_index_or marks place false then back_from marks back place else place

-- So many numbers are of a kind.
pub record AreMany (Kind : ℕ → Type 0) (count : ℕ) : Type 0 where
  pub item : ℕ → ℕ
  pub each : (i : ℕ) → i < count → Kind (item i)
  pub once : (i j : ℕ) → i < count → j < count → item i ≡ item j → i ≡ j
