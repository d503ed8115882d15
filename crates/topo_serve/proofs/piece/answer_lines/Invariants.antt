use Rattle.std.proofs.Common.{◌≡◌, ◌≤◌, [], length}
use Rattle.scratch_region.specs.Marks.{room_of, IsEmpty}
use Rattle.pemb_file.specs.OpenFile.{contents_of_file}
use Rattle.navigate.specs.Bound.{map_with}
use Rattle.topo_serve.specs.Gathering.{out_at}
use Rattle.topo_serve.specs.Pieces.{ended_behind, open_behind}
use Rattle.topo_serve.specs.Serving.{words_of_line}
use Rattle.topo_serve.proofs.Piecing.{IsAnswered}
use Rattle.topo_serve.proofs.piece.answer_lines.Given as goal

-- the lines that ended before what is left are answered
abbrev pub invariant-loop-first : goal.invariant-loop-first
invariant-loop-first g l = record {
  answered : IsAnswered (map_with (contents_of_file l.initial.file)) (words_of_line (map_with (contents_of_file l.initial.file))) (ended_behind [] l.script) (ended_behind [] l.rest) l.initial.steps l.steps
      (out_at (g.K.Sink.held l.initial.out) (g.K.Sink.faults l.initial.out) l.initial.text.items) (out_at (g.K.Sink.held l.out) (g.K.Sink.faults l.out) l.text.items);
  opens : open_behind [] l.script ≡ open_behind [] l.rest;
  contents : contents_of_file l.file ≡ contents_of_file l.initial.file;
  room : room_of l.marks ≡ room_of l.initial.marks;
  empty : IsEmpty l.marks;
  grows : l.initial.steps ≤ l.steps;
  within : length l.rest ≤ length l.script;
}

abbrev pub decreases-loop-first : goal.decreases-loop-first
decreases-loop-first g l = length l.rest
