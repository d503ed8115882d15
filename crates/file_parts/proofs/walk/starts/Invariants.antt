use Rattle.std.proofs.Common.{◌≡◌, ◌≤◌, take}
use Rattle.turan_code.specs.TuranView.{code_of_view}
use Rattle.file_parts.proofs.walk.starts.Given as goal

abbrev pub invariant-loop-component : goal.invariant-loop-component
invariant-loop-component g l = record { starts : l.starts.items ≡ take l.component (code_of_view l.fn.code).starts; grows : l.fn.steps ≤ l.steps }
