-- What the outside holds and gives, where it tells.
use Rattle.std.specs.Prelude.{◌≡◌, ◌≢◌, ◌⊎◌, ℕ, ◌+◌, ◌-◌, ◌^◌, ◌<◌, ◌≤◌, min, List, [], ◌++◌, length, take, drop, Option, None, Some, Result, ⊤, IfSome, OnOk, OnErr}
use Rattle.std.specs.Io.KnownBytes.{Appends}

-- the bytes of each name that is held
abbrev pub Files : Type 0
Files = List ℕ → Option (List ℕ)

-- a count and one more, which stops at its last value
abbrev pub one_more : ℕ → ℕ
one_more count = min (count + 1) (2 ^ 64 - 1)

-- a count rose, or stands at its last value
abbrev pub Rose : ℕ → ℕ → Type 0
Rose before after = one_more before ≤ after

-- with room for more than nothing, nothing comes exactly at the end of the bytes
abbrev pub IsEndAt : Option (List ℕ) → ℕ → ℕ → Type 0
IsEndAt left room k = IfSome left (λ bytes. 0 < room → k ≡ 0 → bytes ≡ [])

-- some bytes at the front of these were appended
abbrev pub GainsPart : Option (List ℕ) → Option (List ℕ) → List ℕ → Type 0
GainsPart before after bytes = (part : List ℕ) × (rest : List ℕ) × (part ++ rest ≡ bytes) × Appends before after part

-- the name is held, where the files are told
abbrev pub IsHeld : Option Files → List ℕ → Type 0
IsHeld None name = ⊤
IsHeld (Some files) name = (bytes : List ℕ) × (files name ≡ Some bytes)

-- the name is not held, where the files are told
abbrev pub IsNotHeld : Option Files → List ℕ → Type 0
IsNotHeld None name = ⊤
IsNotHeld (Some files) name = files name ≡ None

-- where the files are told, the name is held and this is a part of its bytes from a place on, empty with room for more
-- only behind the last byte
abbrev pub IsPartAt : Option Files → List ℕ → ℕ → ℕ → List ℕ → Type 0
IsPartAt None name at room part = ⊤
IsPartAt (Some files) name at room part = (bytes : List ℕ) × (files name ≡ Some bytes) × (part ≡ take (length part) (drop at bytes)) × (0 < room → length part ≡ 0 → length bytes ≤ at)

-- what was left is all taken
abbrev pub IsReadToEnd : Option (List ℕ) → Option (List ℕ) → Type 0
IsReadToEnd None after = ⊤
IsReadToEnd (Some before) after = after ≡ Some []

-- this holds of the files before and after a call, where they are told; files that are told stay so
abbrev pub WhereTold : (Files → Files → Type 0) → Option Files → Option Files → Type 0
WhereTold P None after = ⊤
WhereTold P (Some before) None = ⊥
WhereTold P (Some before) (Some after) = P before after

-- all names but this one are as they were
abbrev pub OthersStay : List ℕ → Files → Files → Type 0
OthersStay name before after = (other : List ℕ) → other ≢ name → after other ≡ before other

-- the name holds these bytes, and all other names are as before
pub record Holds (name bytes : List ℕ) (before after : Files) : Type 0 where
  pub held : after name ≡ Some bytes
  pub others : OthersStay name before after

-- the name holds what it held, or nothing, or some bytes at the front of these
abbrev pub IsFrontAtMost : List ℕ → List ℕ → Files → Files → Type 0
IsFrontAtMost name bytes before after =
    (after name ≡ before name) ⊎ (after name ≡ None) ⊎ ((part : List ℕ) × (rest : List ℕ) × (part ++ rest ≡ bytes) × (after name ≡ Some part))

-- and all other names are as before
pub record HoldsFront (name bytes : List ℕ) (before after : Files) : Type 0 where
  pub held : IsFrontAtMost name bytes before after
  pub others : OthersStay name before after

-- the name holds the empty list
abbrev pub IsStarted : List ℕ → Files → Files → Type 0
IsStarted name before after = after name ≡ Some []

-- the name holds what it held, or nothing, or the empty list
abbrev pub IsStartedAtMost : List ℕ → Files → Files → Type 0
IsStartedAtMost name before after = (after name ≡ before name) ⊎ (after name ≡ None) ⊎ (after name ≡ Some [])

-- the name holds what it held, and these bytes behind it
abbrev pub IsExtended : List ℕ → List ℕ → Files → Files → Type 0
IsExtended name bytes before after = (held : List ℕ) × (before name ≡ Some held) × (after name ≡ Some (held ++ bytes))

-- the name holds what it held, and some bytes at the front of these behind it
abbrev pub IsExtendedInPart : List ℕ → List ℕ → Files → Files → Type 0
IsExtendedInPart name bytes before after = (part : List ℕ) × (rest : List ℕ) × (part ++ rest ≡ bytes) × IsExtended name part before after

-- the count of failed writes stays where a write succeeds, rises where it fails, and never falls
pub record CountsWrite {X E : Type 0} (result : Result X E) (before after : ℕ) : Type 0 where
  pub stays : OnOk result (after ≡ before)
  pub rises : OnErr result (Rose before after)
  pub never_falls : before ≤ after
