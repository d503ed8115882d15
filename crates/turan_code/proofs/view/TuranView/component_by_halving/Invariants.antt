use Rattle.std.proofs.Common.{◌-◌, ◌≤◌, ◌<◌, ◌+◌}
use Rattle.bit_words.specs.Digits.{digits}
use Rattle.code_laws.specs.Code.{component_count, start_of}
use Rattle.turan_code.specs.TuranView.{code_of_view}
use Rattle.turan_code.proofs.view.TuranView.component_by_halving.Given as goal

abbrev pub invariant-loop-high : goal.invariant-loop-high
invariant-loop-high g l = record {
  order : l.low < l.high;
  within : l.high ≤ component_count (code_of_view l.self);
  from : start_of (code_of_view l.self) l.low ≤ l.p;
  to : l.p < start_of (code_of_view l.self) l.high;
  grows : l.initial.steps ≤ l.steps;
  steps : l.steps + digits (l.high - l.low - 1) ≤ l.initial.steps + digits (component_count (code_of_view l.self));
}

abbrev pub decreases-loop-high : goal.decreases-loop-high
decreases-loop-high g l = l.high - l.low
