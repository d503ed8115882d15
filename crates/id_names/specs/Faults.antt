-- The first thing that is wrong with the parts of names.
use Rattle.std.specs.Prelude.{ℕ, ◌-◌, ◌==◌, Bool, true, not, ◌&&◌, nat_lt, if◌then◌else◌, List, [], ◌∷◌, length, find, slice_index, Option, Some, None, option_map}
use Rattle.std.specs.List.{range_with_len}
use Rattle.bit_words.specs.Lists.{is_at, first_some}
use Rattle.bit_words.specs.Bits.{rank}
use Rattle.rank_select.specs.Counts.{counts_of}
use Rattle.id_names.specs.Names.{is_id}
use Rattle.id_names.specs.RisingNames.{RisingNames, count, id_bound, id_at, number_at}
use Rattle.id_names.specs.declared.fault.NameFault.{NameFault}
use Rattle.id_names.specs.declared.fault.NameFault.TheVariants.{HighCounts, Ones, Rising, MarkCounts, MarkOnes, Order}

-- the first entry of a directory that is not the count that it should be
abbrev pub wrong_count : List Bool → List ℕ → Option ℕ
wrong_count bits counts = find (λ j. not (slice_index (counts_of bits) j == slice_index counts j)) (range_with_len 0 (length (counts_of bits)))

-- the ones of these bits, where they are not as many as this
abbrev pub other_ones : List Bool → ℕ → Option ℕ
other_ones bits n = if rank true bits (length bits) == n then None else Some (rank true bits (length bits))

-- the id at place j is at least 1, below `bound` and above that of the place before
abbrev pub is_rising : ℕ → (ℕ → ℕ) → ℕ → Bool
is_rising bound id j = is_id bound (id j) && (if j == 0 then true else nat_lt (id (j - 1)) (id j))

-- number k has a place, and what walks from there comes to it
abbrev pub is_ordered : List ℕ → (ℕ → Option ℕ) → ℕ → Bool
is_ordered places number k = nat_lt (slice_index places k) (length places) && is_at (number (slice_index places k)) k

-- the first number up to the count that fails a test
abbrev pub first_failing : (ℕ → Bool) → ℕ → Option ℕ
first_failing test n = find (λ j. not (test j)) (range_with_len 0 n)

-- the first fault of parts with these directories of `high` and `marks`
unfoldable pub name_fault : RisingNames → List ℕ → List ℕ → Option NameFault
name_fault p high_counts mark_counts =
    first_some (
    option_map HighCounts (wrong_count p.high high_counts)
    ∷ option_map Ones (other_ones p.high (count p))
    ∷ option_map Rising (first_failing (is_rising (id_bound p) (id_at p)) (count p))
    ∷ option_map MarkCounts (wrong_count p.marks mark_counts)
    ∷ option_map MarkOnes (other_ones p.marks (length p.back))
    ∷ option_map Order (first_failing (is_ordered p.places (number_at p)) (count p))
    ∷ [])
