use Rattle.std.proofs.Common.{◌≡◌, take}
use Rattle.islands.specs.Lists.{listed}
use Rattle.islands.specs.Rounds.{fresh_on}
use Rattle.islands.proofs.collect.collect.Given as goal

abbrev pub invariant-loop-f : goal.invariant-loop-f
invariant-loop-f l = l.now.items ≡ fresh_on l.components l.reached (listed l.on_face.last.items l.on_face.before.items) (take l.f-index l.front)
