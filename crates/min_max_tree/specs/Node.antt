-- What some bits sum to and the least of their fronts, as code keeps it.
use Rattle.std.specs.Prelude.{ℕ, ◌≡◌, ◌+◌, ◌-◌, ◌*◌, ◌/◌, ◌%◌, ◌<◌, ◌≤◌, pos, ◌+ℤ◌, ◌-ℤ◌, Bool, List, min}
use Rattle.bit_words.specs.Bits.{excess}
use Rattle.min_max_tree.specs.Tree.{least}
use Rattle.min_max_tree.specs.declared.node.Node.{Node}

-- the bits from `from` to before `to`
pub record IsRun (bits : List Bool) (from to : ℕ) (node : Node) : Type 0 where
  pub total : pos node.total ≡ (excess bits to -ℤ excess bits from) +ℤ pos 2147483648
  pub least : pos node.least ≡ (least (excess bits) from (to - from) -ℤ excess bits from) +ℤ pos 2147483648

-- no bits
abbrev pub no_bits : Node
no_bits = record { total = 2147483648; least = 2147483648 }

-- the bits of one node and then those of the next
abbrev pub joined : Node → Node → Node
joined node next = record { total = node.total + next.total - 2147483648; least = min node.least (node.total + next.least - 2147483648) }

-- the sums of the two stay in range
pub record AreJoinable (node next : Node) : Type 0 where
  pub high : node.total < 4294967296
  pub total : 2147483648 ≤ node.total + next.total
  pub least : 2147483648 ≤ node.total + next.least
  pub next_total : next.total < 4294967296
  pub next_least : next.least < 4294967296

-- the two halves of a word, in two's complement of 32 bits
abbrev pub of_word : ℕ → Node
of_word word = record { total = (word % 4294967296 + 2147483648) % 4294967296; least = (word / 4294967296 + 2147483648) % 4294967296 }

-- and the word of them
abbrev pub word_of : Node → ℕ
word_of node = (node.total + 2147483648) % 4294967296 + 4294967296 * ((node.least + 2147483648) % 4294967296)
