-- The code that a walk makes, and the numbers at its positions.
use Rattle.std.specs.Prelude.{ℕ, ◌+◌, Bool, true, false, List, map, filter, zip}
use Rattle.bit_words.specs.Bits.{same}
use Rattle.code_laws.specs.Code.{Code, positions}
use Rattle.code_laws.specs.Numbers.{edge_of, node_of, ring_of}
use Rattle.code_laws.specs.declared.ring_number.RingNumber.{RingNumber}
use Rattle.code_laws.specs.declared.ring_number.RingNumber.TheVariants.{Outer, Shell}

-- the bits at the positions of one kind
unfoldable pub picked : Bool → List Bool → List Bool → List Bool
picked kind tree first = map (λ x. x.1) (filter (λ x. same kind x.0) (zip tree first))

-- the code of a walk: for each position whether its edge is of the tree and whether it is the first of its edge, and
-- the starts
abbrev pub code_of : List Bool → List Bool → List ℕ → Code
code_of tree first starts = record { a = tree; tree = picked true tree first; dual = picked false tree first; starts = starts }

-- a ring as one number: 0 for an outer ring, and else 1 + the number of the shell
abbrev pub ring_code : RingNumber → ℕ
ring_code (Outer j) = 0
ring_code (Shell s) = 1 + s

abbrev pub edge_numbers : Code → List ℕ
edge_numbers c = map (edge_of c) (positions c)

abbrev pub node_numbers : Code → List ℕ
node_numbers c = map (node_of c) (positions c)

abbrev pub ring_numbers : Code → List ℕ
ring_numbers c = map (λ p. ring_code (ring_of c p)) (positions c)
