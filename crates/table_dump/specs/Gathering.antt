-- Bytes on their way to a name of a shelf: some are put behind what the name holds, and some are gathered behind those.
use Rattle.std.specs.Prelude.{◌≡◌, ℕ, List, ◌++◌, Option, Result, OnOk, OnErr}
use Rattle.ports.specs.Outside.{Files, CountsWrite, IsExtended, IsExtendedInPart, IsHeld, OthersStay, WhereTold}

-- a shelf and what is gathered for it
pub record Out : Type 0 where
  pub files : Option Files
  pub faults : ℕ
  pub text : List ℕ

abbrev pub out_at : Option Files → ℕ → List ℕ → Out
out_at files faults text = record { files = files; faults = faults; text = text }

-- the name holds what it held and these bytes behind it, and all other names are as before
pub record Extends (name bytes : List ℕ) (before after : Files) : Type 0 where
  pub extended : IsExtended name bytes before after
  pub others : OthersStay name before after

-- and some bytes at the front of these alone
pub record ExtendsInPart (name bytes : List ℕ) (before after : Files) : Type 0 where
  pub extended : IsExtendedInPart name bytes before after
  pub others : OthersStay name before after

-- some bytes were put, and with what is gathered now they are what was gathered before and these bytes
abbrev pub Gains : List ℕ → Out → Out → List ℕ → Type 0
Gains name before after bytes = (put : List ℕ) × (put ++ after.text ≡ before.text ++ bytes) × WhereTold (Extends name put) before.files after.files

-- on success these bytes were put or gathered, and the name is held; else only bytes at the front of what was to be put
-- were put, and the shelf counted a failed write
pub record Writes {X E : Type 0} (result : Result X E) (name : List ℕ) (before after : Out) (bytes : List ℕ) : Type 0 where
  pub gained : OnOk result (Gains name before after bytes)
  pub held : OnOk result (IsHeld after.files name)
  pub part : OnErr result (WhereTold (ExtendsInPart name (before.text ++ bytes)) before.files after.files)
  pub counted : CountsWrite result before.faults after.faults
