use Rattle.std.proofs.Common.{◌≡◌, ◌≤◌, ◌+◌, ◌-◌, ◌*◌, true}
use Rattle.std.specs.Prelude.{if◌then◌else◌}
use Rattle.bit_words.specs.PackedView.{fields_of}
use Rattle.rank_select.specs.RankView.{counted}
use Rattle.id_names.specs.Inverse.{walk}
use Rattle.id_names.proofs.inverse.Inverse.number.Given as goal

abbrev pub invariant-loop-test : goal.invariant-loop-test
invariant-loop-test g l = record {
  left : walk (fields_of l.self.places) (counted l.self.marks) (fields_of l.self.back) l.place (l.tests - l._test) l.may_jump l.number ≡ walk (fields_of l.self.places) (counted l.self.marks) (fields_of l.self.back) l.place l.tests true l.place;
  grows : l.initial.steps ≤ l.steps;
  steps : l.steps ≤ l.initial.steps + 3 * l._test + (if l.may_jump then 0 else 11);
}
