-- The numbers of edges, nodes and rings at each position.
use Rattle.std.specs.Prelude.{ℕ, ◌+◌, ◌/◌, ◌==◌, Bool, true, false, nat_lt, if◌then◌else◌, length, find, Option, Some, None, option_map}
use Rattle.std.specs.Option.{option_and_then}
use Rattle.bit_words.specs.Bits.{rank, select}
use Rattle.parens.specs.Matching.{pair_number, innermost}
use Rattle.code_laws.specs.Code.{Code, positions, is_tree, parens, place, component_of, component_count}
use Rattle.code_laws.specs.declared.ring_number.RingNumber.{RingNumber}
use Rattle.code_laws.specs.declared.ring_number.RingNumber.TheVariants.{Outer, Shell}

-- how many edges the trees have
abbrev pub tree_edges : Code → ℕ
tree_edges c = length c.tree / 2

-- how many edges, nodes and shells there are; a shell is a ring that is no outer ring
abbrev pub edge_count : Code → ℕ
edge_count c = length c.a / 2

abbrev pub node_count : Code → ℕ
node_count c = component_count c + tree_edges c

abbrev pub shell_count : Code → ℕ
shell_count c = length c.dual / 2

-- edges of the tree by their opening places, and then the others by theirs
unfoldable pub edge_of : Code → ℕ → ℕ
edge_of c p = if is_tree c p then pair_number c.tree (place c true p) else tree_edges c + pair_number c.dual (place c false p)

-- the number, among the pairs of a kind, of the innermost one round the gap before p
unfoldable pub enclosing_pair : Code → Bool → ℕ → Option ℕ
enclosing_pair c kind p = option_map (rank true (parens c kind)) (innermost (parens c kind) (place c kind p))

abbrev pub node_or_root : Code → ℕ → Option ℕ → ℕ
node_or_root c p None = component_of c p
node_or_root c p (Some j) = component_count c + j

-- the node that a position leaves: its component's root, or the one that a tree edge first reaches
unfoldable pub node_of : Code → ℕ → ℕ
node_of c p = node_or_root c p (enclosing_pair c true p)

abbrev pub shell_or_outer : Code → ℕ → Option ℕ → RingNumber
shell_or_outer c p None = Outer (component_of c p)
shell_or_outer c p (Some j) = Shell j

-- the ring of a position: its component's outer ring, or the shell of an edge that is not in the tree
unfoldable pub ring_of : Code → ℕ → RingNumber
ring_of c p = shell_or_outer c p (enclosing_pair c false p)

-- whether a ring is this shell, and whether it is this outer ring
abbrev pub is_shell : ℕ → RingNumber → Bool
is_shell s (Outer j) = false
is_shell s (Shell j) = j == s

abbrev pub is_outer : ℕ → RingNumber → Bool
is_outer j (Outer i) = i == j
is_outer j (Shell s) = false

-- whether a ring is this one
abbrev pub is_ring : RingNumber → RingNumber → Bool
is_ring (Outer j) r = is_outer j r
is_ring (Shell s) r = is_shell s r

-- whether a code has this ring
abbrev pub has_ring : Code → RingNumber → Bool
has_ring c (Outer j) = nat_lt j (component_count c)
has_ring c (Shell s) = nat_lt s (shell_count c)

-- the first position of an edge, a node or a shell
unfoldable pub first_of_edge : Code → ℕ → Option ℕ
first_of_edge c e = find (λ p. edge_of c p == e) (positions c)

unfoldable pub first_of_node : Code → ℕ → Option ℕ
first_of_node c n = find (λ p. node_of c p == n) (positions c)

unfoldable pub first_of_shell : Code → ℕ → Option ℕ
first_of_shell c s = find (λ p. is_shell s (ring_of c p)) (positions c)

-- the position of the parenthesis of a kind that opens pair x of that kind
abbrev pub opening_position : Code → Bool → ℕ → Option ℕ
opening_position c kind x = option_and_then (select kind c.a) (select true (parens c kind) x)

-- the place after a position
abbrev pub one_on : Option ℕ → Option ℕ
one_on o = option_map (λ p. p + 1) o
