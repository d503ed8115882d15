use Rattle.std.proofs.Common.{◌≡◌, ◌≤◌, drop, length}
use Rattle.scratch_region.specs.Marks.{room_of, IsEmpty}
use Rattle.navigate.specs.Bound.{served_map}
use Rattle.topo_serve.specs.Ahead.{texts, behind, AreNext}
use Rattle.topo_serve.specs.Gathering.{out_at}
use Rattle.topo_serve.specs.Serving.{words_to_answer}
use Rattle.topo_serve.proofs.Piecing.{IsAnswered}
use Rattle.topo_serve.proofs.piece.answer_ahead.Given as goal

-- the lines before this one are answered, and the others are the next of what is left
abbrev pub invariant-loop-line : goal.invariant-loop-line
invariant-loop-line g l = record {
  answered : IsAnswered (served_map l.served) (words_to_answer (served_map l.served)) (texts l.lines l.script) (texts (drop l.line-index l.lines) l.rest) l.initial.steps l.steps
      (out_at (g.K.Sink.held l.initial.out) (g.K.Sink.faults l.initial.out) l.initial.text.items) (out_at (g.K.Sink.held l.out) (g.K.Sink.faults l.out) l.text.items);
  next : AreNext (drop l.line-index l.lines) l.rest;
  left : behind (drop l.line-index l.lines) l.rest ≡ behind l.lines l.script;
  room : room_of l.marks ≡ room_of l.initial.marks;
  empty : IsEmpty l.marks;
  grows : l.initial.steps ≤ l.steps;
  within : length l.rest ≤ length l.script;
}
