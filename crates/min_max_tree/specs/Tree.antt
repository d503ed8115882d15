-- The tree of least excesses over blocks of 512 bits, and its words.
use Rattle.std.specs.Prelude.{ℕ, zero, suc, ◌+◌, ◌*◌, ◌-◌, ◌/◌, ◌^◌, ℤ, ◌-ℤ◌, Bool, List, [], ◌++◌, length, min, nat_le, if◌then◌else◌}
use Rattle.std.specs.Int.{w32, cast_unsigned, int_min}
use Rattle.bit_words.specs.Lists.{tabulate}
use Rattle.bit_words.specs.Bits.{excess}

-- how many bits a node of this height stands for: a block at height 0, and two nodes below it else
unfoldable pub span_at : ℕ → ℕ
span_at h = 512 * 2 ^ h

-- how many nodes of this height stand for so many bits, the last one maybe in part
unfoldable pub size_at : ℕ → ℕ → ℕ
size_at len h = (len + (span_at h - 1)) / span_at h

-- where the nodes of this height begin: after those below
unfoldable pub start_at : ℕ → ℕ → ℕ
start_at len zero = 0
start_at len (suc h) = start_at len h + size_at len h

-- where a node's bits begin and end
abbrev pub node_from : ℕ → ℕ → ℕ
node_from h j = span_at h * j

abbrev pub node_to : ℕ → ℕ → ℕ → ℕ
node_to len h j = min len (span_at h * (j + 1))

-- the least of f at from to from + n
unfoldable pub least : (ℕ → ℤ) → ℕ → ℕ → ℤ
least f from zero = f from
least f from (suc n) = int_min (least f from n) (f (from + suc n))

-- what the bits of a node sum to, and the least that a front of them sums to
unfoldable pub total_of : List Bool → ℕ → ℕ → ℤ
total_of bits h j = excess bits (node_to (length bits) h j) -ℤ excess bits (node_from h j)

unfoldable pub least_of : List Bool → ℕ → ℕ → ℤ
least_of bits h j =
    least (excess bits) (node_from h j) (node_to (length bits) h j - node_from h j) -ℤ excess bits (node_from h j)

-- both in one word, in two's complement of 32 bits
unfoldable pub node : List Bool → ℕ → ℕ → ℕ
node bits h j = cast_unsigned w32 (total_of bits h j) + 2 ^ 32 * cast_unsigned w32 (least_of bits h j)

-- the nodes from this height up to the one that stands for all bits, at most so many heights
unfoldable pub levels : List Bool → ℕ → ℕ → List ℕ
levels bits zero h = []
levels bits (suc more) h =
    tabulate (size_at (length bits) h) (node bits h) ++ (if nat_le (size_at (length bits) h) 1 then [] else levels bits more (h + 1))

-- the tree of these bits
unfoldable pub nodes_of : List Bool → List ℕ
nodes_of bits = levels bits (length bits + 1) 0

-- how many words these levels have, and how many the tree of so many bits
unfoldable pub sizes_from : ℕ → ℕ → ℕ → ℕ
sizes_from len zero h = 0
sizes_from len (suc more) h = let above = sizes_from len more (h + 1) in size_at len h + (if nat_le (size_at len h) 1 then 0 else above)

unfoldable pub tree_size : ℕ → ℕ
tree_size len = sizes_from len (len + 1) 0
