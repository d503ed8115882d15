-- An edge with a direction, as a number: the edge's id forward, and the id below zero backward.
use Rattle.std.specs.Prelude.{ℕ, suc, ℤ, pos, negsuc, neg_ℤ, Bool, true, false, ◌&&◌, ◌||◌, not, nat_lt, nat_le, ◌==◌, IsTrue}
use Rattle.topo_base.specs.declared.id.TheConstants.{LARGEST_ID}

-- the id of its edge
abbrev pub edge_of : ℤ → ℕ
edge_of (pos n) = n
edge_of (negsuc n) = suc n

-- whether it runs from the edge's start to its end
abbrev pub is_forward : ℤ → Bool
is_forward (pos n) = true
is_forward (negsuc n) = false

-- the same edge the other way
abbrev pub reverse : ℤ → ℤ
reverse d = neg_ℤ d

abbrev pub same_edge : ℤ → ℤ → Bool
same_edge (pos m) (pos n) = m == n
same_edge (pos m) (negsuc n) = false
same_edge (negsuc m) (pos n) = false
same_edge (negsuc m) (negsuc n) = m == n

-- the order of signed edges: by the edge's id, the forward one first
abbrev pub comes_before : ℤ → ℤ → Bool
comes_before d e = nat_lt (edge_of d) (edge_of e) || ((edge_of d == edge_of e) && is_forward d && not (is_forward e))

abbrev pub is_signed_edge : ℤ → Bool
is_signed_edge d = nat_lt 0 (edge_of d) && nat_le (edge_of d) LARGEST_ID

abbrev pub IsSignedEdge : ℤ → Type 0
IsSignedEdge d = IsTrue (is_signed_edge d)
