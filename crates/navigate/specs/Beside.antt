-- The faces across the edges at positions, by their places: 0 for face 0, and else 1 + the number of the face.
use Rattle.std.specs.Prelude.{ℕ, ◌≡◌, ◌<◌, ◌==◌, not, List, length, map, filter}
use Rattle.code_laws.specs.Code.{mate}
use Rattle.code_laws.specs.Numbers.{ring_of}
use Rattle.code_laws.specs.declared.ring_number.RingNumber.{RingNumber}
use Rattle.plane_model.specs.Sets.{first_occurrences, first_occurrences_but}
use Rattle.file_laws.specs.Contents.{Contents}
use Rattle.file_laws.specs.MapOfFile.{place_of_ring}

-- a ring that some position has
abbrev pub IsSomeRing : Contents → RingNumber → Type 0
IsSomeRing c ring = (p : ℕ) × (p < length c.code.a) × (ring ≡ ring_of c.code p)

-- the place of the face across the edge at a position
unfoldable pub place_across : Contents → ℕ → ℕ
place_across c p = place_of_ring c (ring_of c.code (mate c.code p))

-- the places other than one
abbrev pub others : ℕ → List ℕ → List ℕ
others place xs = filter (λ g. not (g == place)) xs

-- the places of the other faces across the edges at these positions, each where it comes first
abbrev pub adjacent_places : Contents → ℕ → List ℕ → List ℕ
adjacent_places c place ps = first_occurrences (others place (map (place_across c) ps))

-- those of them that were not seen
unfoldable pub unseen : Contents → ℕ → List ℕ → List ℕ → List ℕ
unseen c place seen ps = first_occurrences_but seen (others place (map (place_across c) ps))
