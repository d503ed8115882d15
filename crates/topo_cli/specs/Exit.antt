-- The exit status of each status.
use Rattle.std.specs.Prelude.{ℕ}
use Rattle.topo_cli.specs.declared.status.Status.{Status}
use Rattle.topo_cli.specs.declared.status.Status.TheVariants as status

abbrev pub exit_status : Status → ℕ
exit_status status.Done = 0
exit_status status.Usage = 1
exit_status status.TablesRefused = 2
exit_status status.FileRefused = 3
exit_status status.ReadFault = 4
exit_status status.WriteFault = 5
exit_status status.Memory = 6
exit_status status.Missing = 7
exit_status status.TooLong = 8
