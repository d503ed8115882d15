use Rattle.std.proofs.Common.{◌≡◌, ◌≤◌, ◌<◌, ◌+◌, ◌*◌, ℕ, true}
use Rattle.code_laws.specs.Code.{start_of, place}
use Rattle.code_laws.specs.SeqFault.{is_balanced_in}
use Rattle.turan_code.specs.Sequences.{code_of_sequences}
use Rattle.turan_code.proofs.sequences.Sequences.unbalanced.Given as goal

abbrev pub invariant-loop-component : goal.invariant-loop-component
invariant-loop-component g l = record {
  begins : l.start ≡ start_of (code_of_sequences l.self) l.component;
  places : l.place ≡ place (code_of_sequences l.self) l.kind l.start;
  passed : (k : ℕ) → k < l.component → is_balanced_in (code_of_sequences l.self) l.kind k ≡ true;
  grows : l.initial.steps ≤ l.steps;
  count : l.steps ≤ l.initial.steps + 2 * l.component + l.start + 5 * l.place;
}
