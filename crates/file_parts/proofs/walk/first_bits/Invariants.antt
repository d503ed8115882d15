use Rattle.std.proofs.Common.{◌≡◌, ◌≤◌, map}
use Rattle.std.specs.List.{range_with_len}
use Rattle.turan_code.specs.TuranView.{code_of_view}
use Rattle.code_laws.specs.Code.{is_first}
use Rattle.file_parts.proofs.walk.first_bits.Given as goal

abbrev pub invariant-loop-p : goal.invariant-loop-p
invariant-loop-p g l = record { first : l.first.items ≡ map (is_first (code_of_view l.fn.code)) (range_with_len 0 l.p); grows : l.fn.steps ≤ l.steps }
