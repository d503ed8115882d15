-- The cycles of a permutation, and the numbers of long cycles that are marked, each with a pointer back.
use Rattle.std.specs.Prelude.{ℕ, ◌≡◌, ◌-◌, ◌*◌, ◌/◌, ◌%◌, ◌==◌, ◌<◌, min, fold, Bool, true, false, ◌&&◌, nat_lt, if◌then◌else◌, List, map, filter_map, length, slice_index, slice_index_or, Option, Some, None, is_some}
use Rattle.std.specs.List.{range_with_len, position_or_len}
use Rattle.orbits.specs.Walks.{orbit}
use Rattle.orbits.specs.Points.{has}
use Rattle.bit_words.specs.Lists.{tabulate}

-- each number has a place below their count, and no two have one place
pub record IsPlacePermutation (places : List ℕ) : Type 0 where
  pub below : (k : ℕ) → k < length places → slice_index places k < length places
  pub one : (j k : ℕ) → j < length places → k < length places → slice_index places j ≡ slice_index places k → j ≡ k

-- the numbers by place: the one list undoes the other
pub record AreInverse (places numbers : List ℕ) : Type 0 where
  pub size : length numbers ≡ length places
  pub undo : (k : ℕ) → k < length places → slice_index numbers (slice_index places k) ≡ k

-- a number, its place, the place of that, and so on until the number comes again
abbrev pub cycle : List ℕ → ℕ → List ℕ
cycle places k = orbit (λ x y. x == y) (range_with_len 0 (length places)) (slice_index places) k

-- the least member of the cycle of a number
abbrev pub least_member : List ℕ → ℕ → ℕ
least_member places k = fold min k (cycle places k)

-- Of a cycle with more than `stride` members, those at 0, `stride`, twice that and so on are marked. The pointer of
-- a mark is the mark before it, and that of the first is the last mark; none for a member that is not marked.
unfoldable pub mark_at : ℕ → List ℕ → ℕ → Option ℕ
mark_at stride members i =
    if nat_lt stride (length members) && (i % stride == 0)
    then Some (slice_index members (if i == 0 then (length members - 1) / stride * stride else i - stride))
    else None

-- the pointer of a number, whose cycle begins at its least member
unfoldable pub mark_of : List ℕ → ℕ → ℕ → Option ℕ
mark_of places stride k =
    let members = cycle places (least_member places k) in
    mark_at stride members (position_or_len (λ x. x == k) members)

-- the pointers by number
abbrev pub marks_of : List ℕ → ℕ → List (Option ℕ)
marks_of places stride = tabulate (length places) (mark_of places stride)

-- whether each number is marked
abbrev pub marked : List ℕ → ℕ → List Bool
marked places stride = map is_some (marks_of places stride)

-- the pointers of the marked numbers, by rising number
abbrev pub back_pointers : List ℕ → ℕ → List ℕ
back_pointers places stride = filter_map (λ mark. mark) (marks_of places stride)

-- the pointer of a number where each member of a cycle of several is marked, by the numbers by place: the one before it
abbrev pub one_before : List ℕ → ℕ → Option ℕ
one_before numbers k = if slice_index numbers k == k then None else Some (slice_index numbers k)

-- the members of a cycle are visited, and what was visited before
pub record AreVisited (members : List ℕ) (old new : List Bool) : Type 0 where
  pub size : length new ≡ length old
  pub inside : (i : ℕ) → i < length members → slice_index_or new (slice_index members i) false ≡ true
  pub outside : (x : ℕ) → x < length old → has (λ x y. x == y) members x ≡ false → slice_index_or new x false ≡ slice_index_or old x false

-- the members of a cycle have their pointers, and the others what they had
pub record HavePointers (stride : ℕ) (members : List ℕ) (old new : List (Option ℕ)) : Type 0 where
  pub size : length new ≡ length old
  pub inside : (i : ℕ) → i < length members → slice_index_or new (slice_index members i) None ≡ mark_at stride members i
  pub outside : (x : ℕ) → x < length old → has (λ x y. x == y) members x ≡ false → slice_index_or new x None ≡ slice_index_or old x None
