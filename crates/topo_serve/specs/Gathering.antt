-- Bytes on their way to a sink: some are put, and some are gathered behind those.
use Rattle.std.specs.Prelude.{◌≡◌, ℕ, ◌≤◌, List, ◌++◌, Option, Result, OnOk, OnErr}
use Rattle.std.specs.Io.KnownBytes.{Appends}
use Rattle.ports.specs.Outside.{Rose, GainsPart}

-- a sink and what is gathered for it
pub record Out : Type 0 where
  pub held : Option (List ℕ)
  pub faults : ℕ
  pub text : List ℕ

abbrev pub out_at : Option (List ℕ) → ℕ → List ℕ → Out
out_at held faults text = record { held = held; faults = faults; text = text }

-- some bytes were put, and with what is gathered now they are what was gathered before and these bytes
abbrev pub Gains : Out → Out → List ℕ → Type 0
Gains before after bytes = (put : List ℕ) × (put ++ after.text ≡ before.text ++ bytes) × Appends before.held after.held put

-- on success these bytes were put or gathered, and no fault was counted; else only bytes at the front of what was to be
-- put were put, and the sink counted a fault
pub record Writes {X E : Type 0} (result : Result X E) (before after : Out) (bytes : List ℕ) : Type 0 where
  pub gained : OnOk result (Gains before after bytes)
  pub stays : OnOk result (after.faults ≡ before.faults)
  pub part : OnErr result (GainsPart before.held after.held (before.text ++ bytes))
  pub cause : OnErr result (Rose before.faults after.faults)
  pub never_falls : before.faults ≤ after.faults
