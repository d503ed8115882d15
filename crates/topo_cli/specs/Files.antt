-- What is read of a file and what is written to it, where the shelf tells it.
use Rattle.std.specs.Prelude.{◌≡◌, ℕ, ◌<◌, List, ◌++◌, length, Option, Some, None, ⊤}
use Rattle.ports.specs.Outside.{Files}
use Rattle.topo_cli.specs.Limits.{most_bytes}

-- these are the bytes of the file
abbrev pub IsWhole : Option Files → List ℕ → List ℕ → Type 0
IsWhole None name bytes = ⊤
IsWhole (Some files) name bytes = files name ≡ Some bytes

-- the file has more than the most bytes
abbrev pub IsLongFile : Option Files → List ℕ → Type 0
IsLongFile None name = ⊤
IsLongFile (Some files) name = (bytes : List ℕ) × (files name ≡ Some bytes) × (most_bytes < length bytes)

-- where there are some, these are the first bytes of the file
abbrev pub IsFront : Option Files → List ℕ → List ℕ → Type 0
IsFront None name bytes = ⊤
IsFront (Some files) name bytes = 0 < length bytes → (rest : List ℕ) × (files name ≡ Some (bytes ++ rest))
