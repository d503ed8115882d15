-- Worked codes.
use Rattle.std.specs.Prelude.{ℕ, ◌==◌, Bool, List, [], ◌∷◌, map}
use Rattle.code_laws.specs.Code.{Code}
use Rattle.code_laws.specs.Tour.{code_of}

abbrev pub bit_list : List ℕ → List Bool
bit_list bits = map (λ b. b == 1) bits

abbrev pub code_of_bits : List ℕ → List ℕ → List ℕ → List ℕ → Code
code_of_bits a tree dual starts = record { a = bit_list a; tree = bit_list tree; dual = bit_list dual; starts = starts }

-- a triangle, walked from its first edge backward
abbrev pub triangle : Code
triangle = code_of_bits (1 ∷ 1 ∷ 0 ∷ 1 ∷ 1 ∷ 0 ∷ []) (1 ∷ 1 ∷ 0 ∷ 0 ∷ []) (1 ∷ 0 ∷ []) (0 ∷ 6 ∷ [])

-- its walk
abbrev pub triangle_walk : Code
triangle_walk = code_of (bit_list (1 ∷ 1 ∷ 0 ∷ 1 ∷ 1 ∷ 0 ∷ [])) (bit_list (1 ∷ 1 ∷ 1 ∷ 0 ∷ 0 ∷ 0 ∷ [])) (0 ∷ 6 ∷ [])

-- one closed edge, walked on its left side first
abbrev pub closed_edge : Code
closed_edge = code_of_bits (0 ∷ 0 ∷ []) [] (1 ∷ 0 ∷ []) (0 ∷ 2 ∷ [])

-- one edge between two nodes
abbrev pub one_edge : Code
one_edge = code_of_bits (1 ∷ 1 ∷ []) (1 ∷ 0 ∷ []) [] (0 ∷ 2 ∷ [])

-- two edges that nothing joins
abbrev pub two_edges : Code
two_edges = code_of_bits (1 ∷ 1 ∷ 1 ∷ 1 ∷ []) (1 ∷ 0 ∷ 1 ∷ 0 ∷ []) [] (0 ∷ 2 ∷ 4 ∷ [])

-- one edge with a start between its positions
abbrev pub split_edge : Code
split_edge = code_of_bits (1 ∷ 1 ∷ []) (1 ∷ 0 ∷ []) [] (0 ∷ 1 ∷ 2 ∷ [])
