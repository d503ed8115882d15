use Rattle.std.proofs.Common.{◌≡◌, ◌-◌, ◌++◌, map, take, drop}
use Rattle.euler_check.proofs.marks.less_one.Given as goal

-- the entries so far have become less
abbrev pub invariant-loop-entry : goal.invariant-loop-entry
invariant-loop-entry l = l.entries ≡ map (λ e. e - 1) (take l.entry-index l.initial.entries) ++ drop l.entry-index l.initial.entries
