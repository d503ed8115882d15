-- Regions by number as parentheses in preorder: region x is the pair that opens with x opening places before it.
use Rattle.std.specs.Prelude.{ℕ, zero, suc, ◌-◌, ◌==◌, Bool, true, if◌then◌else◌, List, [], ◌∷◌, find, length, slice_index, Option, Some, None, option_map, unwrap_or}
use Rattle.bit_words.specs.Bits.{rank, select}
use Rattle.parens.specs.Matching.{innermost}
use Rattle.plane_model.specs.Sets.{has}

-- how many regions there are
abbrev pub region_count : List Bool → ℕ
region_count bits = rank true bits (length bits)

-- where region x opens
abbrev pub opening : List Bool → ℕ → ℕ
opening bits x = unwrap_or (select true bits x) 0

-- the region of the innermost pair round region x
unfoldable pub parent_number : List Bool → ℕ → Option ℕ
parent_number bits x = option_map (rank true bits) (innermost bits (opening bits x))

-- a region, its parent and so on: the first n of these
unfoldable pub upward : ℕ → List Bool → Option ℕ → List ℕ
upward zero bits r = []
upward (suc n) bits None = []
upward (suc n) bits (Some r) = r ∷ upward n bits (parent_number bits r)

-- region x, its parent and so on; no chain is longer than the regions are many
unfoldable pub chain : List Bool → ℕ → List ℕ
chain bits x = upward (region_count bits) bits (Some x)

-- the first region of the one chain that is in the other
unfoldable pub common_number : List Bool → ℕ → ℕ → Option ℕ
common_number bits x y = find (has (chain bits y)) (chain bits x)

-- the region of the face at a place, where 0 stands for none and other numbers are one more than the region's
unfoldable pub region_at : List ℕ → ℕ → Option ℕ
region_at members place = let region = slice_index members place in if region == 0 then None else Some (region - 1)
