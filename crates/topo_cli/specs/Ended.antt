-- How a call ends whose tables or file can't be loaded.
use Rattle.std.specs.Prelude.{◌≡◌, ◌⊎◌, ℕ, List, string_bytes}
use Rattle.std.specs.Io.KnownBytes.{Appends}
use Rattle.ports.specs.Outside.{Rose, GainsPart}
use Rattle.topo_cli.specs.declared.status.Status.{Status}
use Rattle.topo_cli.specs.declared.status.Status.TheVariants as status
use Rattle.topo_cli.specs.declared.load.LoadFault.{LoadFault}
use Rattle.topo_cli.specs.declared.load.LoadFault.TheVariants as fault
use Rattle.topo_cli.specs.Call.{SinkCall}
use Rattle.topo_cli.specs.Tables.{Ending}
use Rattle.topo_cli.specs.Text.{status_line}

-- the wanted status with its line written, or a write of that line that failed
abbrev pub IsTold : List ℕ → Status → Status → SinkCall → Type 0
IsTold line wanted s out =
    ((s ≡ wanted) × Appends out.held_before out.held_after line)
    ⊎ ((s ≡ status.WriteFault) × Rose out.faults_before out.faults_after × GainsPart out.held_before out.held_after line)

-- this status, and nothing was written
abbrev pub IsSilent : Status → Status → SinkCall → Type 0
IsSilent wanted s out = (s ≡ wanted) × (out.held_after ≡ out.held_before)

-- the status that a fault of loading ends with
abbrev pub EndsLoading : LoadFault → Status → SinkCall → Type 0
EndsLoading (fault.Missing name) s out = IsTold (status_line (Ending.Missing (string_bytes name))) status.Missing s out ⊎ IsSilent status.Memory s out
EndsLoading fault.ReadFault s out = IsSilent status.ReadFault s out
EndsLoading fault.TooLong s out = IsSilent status.TooLong s out
EndsLoading (fault.Refused e) s out = IsTold (status_line (Ending.Refused e)) status.TablesRefused s out ⊎ IsSilent status.Memory s out
EndsLoading (fault.Unlawful e) s out = IsTold (status_line (Ending.Unlawful e)) status.FileRefused s out ⊎ IsSilent status.Memory s out
EndsLoading fault.Memory s out = IsSilent status.Memory s out
