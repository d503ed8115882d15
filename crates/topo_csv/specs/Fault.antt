-- Why a table has no rows.
use Rattle.std.specs.Prelude.{◌≡◌, List, Result, Err, ⊤}
use Rattle.topo_base.specs.declared.refusal.Refusal.{Refusal}
use Rattle.topo_csv.specs.declared.fault.CsvFault.{CsvFault}
use Rattle.topo_csv.specs.declared.fault.CsvFault.TheVariants as fault

-- the refusal that was found, or want of memory
abbrev pub IsFault : {R : Type 0} → CsvFault → Result (List R) Refusal → Type 0
IsFault (fault.Refused e) read = read ≡ Err e
IsFault fault.Memory read = ⊤
