-- The position of the smallest signed edge of an orbit.
use Rattle.std.specs.Prelude.{ℕ, ℤ, Bool, if◌then◌else◌, List, [], ◌∷◌, map}
use Rattle.topo_base.specs.SignedEdge.{comes_before}
use Rattle.code_laws.specs.Orbits.{orbit}
use Rattle.file_laws.specs.Contents.{Contents}
use Rattle.file_laws.specs.MapOfFile.{signed_at}

-- the one of these positions, p among them, whose signed edge is the smallest
unfoldable pub least : Contents → ℕ → List ℕ → ℕ
least c p [] = p
least c p (q ∷ qs) = least c (if comes_before (signed_at c q) (signed_at c p) then q else p) qs

-- the position of the smallest signed edge of an orbit
abbrev pub smallest_of : Contents → Bool → ℕ → ℕ
smallest_of c kind p = least c p (orbit c.code kind p)

-- the signed edges of the orbit of p, from the smallest
abbrev pub from_smallest : Contents → Bool → ℕ → List ℤ
from_smallest c kind p = map (signed_at c) (orbit c.code kind (smallest_of c kind p))
