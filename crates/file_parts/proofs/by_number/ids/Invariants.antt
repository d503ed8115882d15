use Rattle.std.proofs.Common.{◌≡◌, ◌≤◌, take}
use Rattle.id_names.specs.Views.{ids_of}
use Rattle.file_parts.proofs.by_number.ids.Given as goal

abbrev pub invariant-loop-number : goal.invariant-loop-number
invariant-loop-number g l = record { ids : l.ids.items ≡ take l.number (ids_of l.fn.names); grows : l.fn.steps ≤ l.steps }
