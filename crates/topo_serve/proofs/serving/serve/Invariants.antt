use Rattle.std.proofs.Common.{◌≡◌, ◌-◌, [], length}
use Rattle.scratch_region.specs.Marks.{room_of, IsEmpty}
use Rattle.pemb_file.specs.OpenFile.{contents_of_file}
use Rattle.pemb_file.specs.Served.{contents_of_view}
use Rattle.navigate.specs.Bound.{served_map}
use Rattle.topo_serve.specs.Gathering.{out_at}
use Rattle.topo_serve.specs.Serving.{most_bytes}
use Rattle.topo_serve.proofs.Served.{IsServing}
use Rattle.topo_serve.proofs.serving.serve.Given as goal

abbrev pub invariant-loop-count : goal.invariant-loop-count
invariant-loop-count g l =
    IsServing (served_map l.served) (g.S.Source.left l.initial.script) (g.S.Source.left l.script) l.taken l.line.items l.initial.steps l.steps
    (out_at (g.K.Sink.held l.initial.out) (g.K.Sink.faults l.initial.out) []) (out_at (g.K.Sink.held l.out) (g.K.Sink.faults l.out) [])
    × (l.text.items ≡ [])
    × (room_of l.marks ≡ room_of l.initial.marks)
    × IsEmpty l.marks
    × (g.S.Source.faults l.script ≡ g.S.Source.faults l.initial.script)
    × (length l.buffer ≡ 65536)
    × (contents_of_file l.file ≡ contents_of_view l.served)

abbrev pub decreases-loop-count : goal.decreases-loop-count
decreases-loop-count g l = most_bytes - l.taken
