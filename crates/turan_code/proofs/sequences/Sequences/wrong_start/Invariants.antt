use Rattle.std.proofs.Common.{◌≡◌, ◌≤◌, ◌<◌, ◌+◌, ◌-◌, ◌*◌, ℕ, true}
use Rattle.code_laws.specs.Code.{start_of}
use Rattle.code_laws.specs.SeqFault.{is_start}
use Rattle.turan_code.specs.Sequences.{code_of_sequences}
use Rattle.turan_code.proofs.sequences.Sequences.wrong_start.Given as goal

abbrev pub invariant-loop-index : goal.invariant-loop-index
invariant-loop-index g l = record {
  passed : (k : ℕ) → k < l.index → is_start (code_of_sequences l.self) k ≡ true;
  last : 0 < l.index → l.before ≡ start_of (code_of_sequences l.self) (l.index - 1);
  least : l.initial.steps + l.index ≤ l.steps;
  count : l.steps ≤ l.initial.steps + 2 * l.index;
}
