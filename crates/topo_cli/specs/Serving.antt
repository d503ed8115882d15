-- What serving answers, as a status.
use Rattle.std.specs.Prelude.{◌≡◌, ◌⊎◌, ℕ, Result, Ok, Err}
use Rattle.plane_model.specs.PlaneMap.{PlaneMap}
use Rattle.topo_serve.specs.Serving.{Call as ServeCall, Serves}
use Rattle.topo_serve.specs.declared.fault.ServeFault.{ServeFault}
use Rattle.topo_serve.specs.declared.fault.ServeFault.TheVariants as fault
use Rattle.topo_cli.specs.declared.status.Status.{Status}
use Rattle.topo_cli.specs.declared.status.Status.TheVariants as status
use Rattle.topo_cli.specs.Call.{IsIdle, SinkCall, SourceCall}

-- what serving begins and ends with
abbrev pub serve_call : SourceCall → SinkCall → ℕ → ℕ → ServeCall
serve_call script out before after =
    record {
      script_before = script.left_before;
      script_after = script.left_after;
      script_faults_before = script.faults_before;
      script_faults_after = script.faults_after;
      out_before = out.held_before;
      out_after = out.held_after;
      out_faults_before = out.faults_before;
      out_faults_after = out.faults_after;
      steps_before = before;
      steps_after = after;
    }

-- the status of what serving answers
abbrev pub status_of : Result (Unit {0}) ServeFault → Status
status_of (Ok x) = status.Done
status_of (Err fault.ReadFault) = status.ReadFault
status_of (Err fault.WriteFault) = status.WriteFault
status_of (Err fault.ScriptTooLong) = status.TooLong

-- memory ran out before the script was asked for a byte
pub record IsUnserved (script : SourceCall) (out : SinkCall) (before after : ℕ) : Type 0 where
  pub idle : IsIdle script
  pub silent : out.held_after ≡ out.held_before
  pub unread : after ≡ before

-- the status says what serving answered, or memory ran out before it
abbrev pub IsServedAs : PlaneMap → SourceCall → SinkCall → ℕ → ℕ → Status → Type 0
IsServedAs m script out before after s =
    ((s ≡ status.Memory) × IsUnserved script out before after)
    ⊎ ((result : Result (Unit {0}) ServeFault) × (s ≡ status_of result) × Serves m (serve_call script out before after) result)
