-- How many nodes, rings and edges a component has.
use Rattle.std.specs.Prelude.{ℕ, ◌-◌, ◌/◌, ◌==◌, Bool, List, filter, find, length}
use Rattle.std.specs.List.{range_with_len}
use Rattle.bit_words.specs.Lists.{is_at}
use Rattle.code_laws.specs.Code.{Code, positions, place, start_of, end_of}
use Rattle.code_laws.specs.Numbers.{node_of, ring_of, is_ring}

-- the positions of component j
abbrev pub positions_in : Code → ℕ → List ℕ
positions_in c j = range_with_len (start_of c j) (end_of c j - start_of c j)

-- whether no position before p has the node of p, or its ring
abbrev pub begins_node : Code → ℕ → Bool
begins_node c p = is_at (find (λ q. node_of c q == node_of c p) (positions c)) p

abbrev pub begins_ring : Code → ℕ → Bool
begins_ring c p = is_at (find (λ q. is_ring (ring_of c p) (ring_of c q)) (positions c)) p

-- how many different nodes the positions of component j have, and how many different rings
abbrev pub nodes_in : Code → ℕ → ℕ
nodes_in c j = length (filter (begins_node c) (positions_in c j))

abbrev pub rings_in : Code → ℕ → ℕ
rings_in c j = length (filter (begins_ring c) (positions_in c j))

-- how many edges component j has, two positions each, and how many of a kind
abbrev pub edges_in : Code → ℕ → ℕ
edges_in c j = (end_of c j - start_of c j) / 2

abbrev pub edges_of_kind : Code → Bool → ℕ → ℕ
edges_of_kind c kind j = (place c kind (end_of c j) - place c kind (start_of c j)) / 2
