use Rattle.std.proofs.Common.{◌≡◌, ◌≤◌, take}
use Rattle.turan_code.specs.TuranView.{code_of_view}
use Rattle.file_parts.proofs.walk.tree_bits.Given as goal

abbrev pub invariant-loop-p : goal.invariant-loop-p
invariant-loop-p g l = record { tree : l.tree.items ≡ take l.p (code_of_view l.fn.code).a; grows : l.fn.steps ≤ l.steps }
