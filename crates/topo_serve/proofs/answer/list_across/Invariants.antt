use Rattle.std.proofs.Common.{◌≡◌, ◌+◌, ◌≤◌, length, map}
use Rattle.topo_base.specs.Script.{Item}
use Rattle.scratch_region.specs.Marks.{room_of}
use Rattle.navigate.specs.AdjacentWalk as across
use Rattle.topo_serve.specs.Gathering.{out_at}
use Rattle.topo_serve.proofs.Listing.{IsListed}
use Rattle.topo_serve.proofs.answer.list_across.Given as goal

abbrev pub invariant-loop-face : goal.invariant-loop-face
invariant-loop-face g l =
    IsListed (map Item.Number (across.rest l.initial.walk)) (map Item.Number (across.rest l.walk))
    (out_at (g.K.Sink.held l.initial.out) (g.K.Sink.faults l.initial.out) l.initial.text.items) (out_at (g.K.Sink.held l.out) (g.K.Sink.faults l.out) l.text.items)
    × (across.contents_in l.walk ≡ across.contents_in l.initial.walk)
    × (room_of l.marks ≡ room_of l.initial.marks)
    × across.HoldsGiven l.walk l.marks
    × (l.initial.steps + length (across.rest l.initial.walk) ≤ l.steps + length (across.rest l.walk))
    × (l.initial.steps ≤ l.steps)
    × (l.steps + across.allowance l.walk ≤ l.initial.steps + across.allowance l.initial.walk)

abbrev pub decreases-loop-face : goal.decreases-loop-face
decreases-loop-face g l = length (across.rest l.walk)
