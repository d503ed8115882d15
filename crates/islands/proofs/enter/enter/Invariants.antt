use Rattle.std.proofs.Common.{take, [], length, ◌≡◌}
use Rattle.std.specs.Prelude.{slice_index}
use Rattle.islands.specs.Rounds.{AreEntered, KeysAreMarked, IsBeside}
use Rattle.islands.proofs.enter.enter.Given as goal

abbrev pub invariant-loop-s : goal.invariant-loop-s
invariant-loop-s l = record {
  marked : KeysAreMarked (slice_index l.components) (take l.s-index l.now) l.initial.reached.items l.reached.items;
  opens : AreEntered l.faces (IsBeside l.faces l.components (take l.s-index l.now)) l.initial.entered.items l.entered.items [] l.next.items;
  reached_many : length l.reached.items ≡ length l.initial.reached.items;
  entered_many : length l.entered.items ≡ length l.initial.entered.items;
}
