-- Numbers that were looked for before.
use Rattle.std.specs.Prelude.{ℕ, ◌≡◌, ◌≢◌, List, map, Option, Some}
use Rattle.std.specs.List.{All}
use Rattle.id_names.specs.Names.{number_of}
use Rattle.id_names.specs.declared.known.KnownNumber.{KnownNumber}

-- the number is that of the id, where there is an id
abbrev pub IsKnown : List ℕ → KnownNumber → Type 0
IsKnown ids known = (id : ℕ) → known.id ≡ Some id → known.number ≡ number_of ids id

-- all are
abbrev pub AreKnown : List ℕ → List KnownNumber → Type 0
AreKnown ids known = All (IsKnown ids) known

-- the ids that were asked for
abbrev pub asked : List KnownNumber → List (Option ℕ)
asked known = map (λ k. k.id) known

-- this id wasn't
abbrev pub IsNew : ℕ → List KnownNumber → Type 0
IsNew id known = All (λ k. k.id ≢ Some id) known
