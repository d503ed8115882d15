use Rattle.std.proofs.Common.{◌+◌, arith, length-drop, refl, rules, sym}
use Rattle.std.proofs.lemmas.List.{length-take-le, take_rest}
use Rattle.topo_serve.proofs.NextLines.{line_here, none_here, first_next, others_next, first_text, first_behind, no_behind, no_texts}
use Rattle.topo_serve.proofs.Piecing.{answered_none, answered_one, answered_one_part, paid_one_part, answered_all, least_all, most_all}
use Rattle.topo_serve.proofs.piece.answer_ahead.Goals as goal

pub loop-line-init : goal.loop-line-init
loop-line-init g c = record {
  answered = answered_none _ _ _ _ _;
  next = c.requires.next;
  left = refl;
  room = refl;
  empty = c.requires.empty;
  grows = omega arith;
  within = omega arith;
}

pub slice_bounds-answer_read-end : goal.slice_bounds-answer_read-end
slice_bounds-answer_read-end g c =
    let here = line_here c.args.lines.now c.loop-line.line-index c.line-item.result c.loop-line-test.true c.line-item.is in
    let next = first_next _ _ _ _ here c.loop-line.invariant.next in
    let full = length-take-le c.line-item.result.end c.loop-line.rest.now (omega (arith, next.within)) in
    omega (arith, full)

pub answer_read-requires-clause-said : goal.answer_read-requires-clause-said
answer_read-requires-clause-said g c =
    let here = line_here c.args.lines.now c.loop-line.line-index c.line-item.result c.loop-line-test.true c.line-item.is in
    let next = first_next _ _ _ _ here c.loop-line.invariant.next in next.said

pub returns-in_err-answer_read-clause-writes : goal.returns-in_err-answer_read-clause-writes
returns-in_err-answer_read-clause-writes g c =
    let here = line_here c.args.lines.now c.loop-line.line-index c.line-item.result c.loop-line-test.true c.line-item.is in
    answered_one_part _ _ _ _ _ _ _ _ _ _ _ _ _ _ c.loop-line.invariant.answered (first_text _ _ _ c.loop-line.rest.now here) c.from_residual.ensures.1 c.in_err-answer_read.ensures.writes

pub returns-in_err-answer_read-clause-paid : goal.returns-in_err-answer_read-clause-paid
returns-in_err-answer_read-clause-paid g c =
    let here = line_here c.args.lines.now c.loop-line.line-index c.line-item.result c.loop-line-test.true c.line-item.is in
    paid_one_part _ _ _ _ _ _ _ _ _ _ _ c.loop-line.invariant.answered (first_text _ _ _ c.loop-line.rest.now here) c.in_err-answer_read.ensures.paid

pub overflow_add-rest : goal.overflow_add-rest
overflow_add-rest g c =
    let here = line_here c.args.lines.now c.loop-line.line-index c.line-item.result c.loop-line-test.true c.line-item.is in
    let next = first_next _ _ _ _ here c.loop-line.invariant.next in
    omega (arith, next.within, c.loop-line.invariant.within)

pub slice_bounds-rest-count : goal.slice_bounds-rest-count
slice_bounds-rest-count g c =
    let here = line_here c.args.lines.now c.loop-line.line-index c.line-item.result c.loop-line-test.true c.line-item.is in
    let next = first_next _ _ _ _ here c.loop-line.invariant.next in
    omega (arith, next.within)

pub slice_bounds-rest-start : goal.slice_bounds-rest-start
slice_bounds-rest-start g c =
    let here = line_here c.args.lines.now c.loop-line.line-index c.line-item.result c.loop-line-test.true c.line-item.is in
    let next = first_next _ _ _ _ here c.loop-line.invariant.next in
    search (rules, next.within)

pub loop-line-preserved : goal.loop-line-preserved
loop-line-preserved g c =
    let here = line_here c.args.lines.now c.loop-line.line-index c.line-item.result c.loop-line-test.true c.line-item.is in
    let rest = c.loop-line.rest.now in
    record {
      answered = rw take_rest (answered_one _ _ _ _ _ _ _ _ _ _ _ _ _ c.loop-line.invariant.answered (first_text _ _ _ rest here)
          c.in_ok-answer_read.ensures.writes c.in_ok-answer_read.ensures.least c.in_ok-answer_read.ensures.paid);
      next = rw take_rest (others_next _ _ _ rest here c.loop-line.invariant.next);
      left = rw (take_rest, ← first_behind _ _ _ rest here) c.loop-line.invariant.left;
      room = rw c.in_ok-answer_read.ensures.room c.loop-line.invariant.room;
      empty = c.in_ok-answer_read.ensures.empty;
      grows = omega (arith, c.in_ok-answer_read.ensures.grows, c.loop-line.invariant.grows);
      within = rw take_rest (omega (arith, length-drop (c.line-item.result.end + 1) rest, c.loop-line.invariant.within));
    }

pub returns-clause-writes : goal.returns-clause-writes
returns-clause-writes g c =
    let none = none_here c.args.lines.now c.loop-line.line-index c.loop-line.auto.line-index-end c.loop-line-test.false in
    answered_all _ _ _ _ _ _ _ _ _ c.loop-line.invariant.answered (no_texts _ c.loop-line.rest.now none)

pub returns-clause-rest : goal.returns-clause-rest
returns-clause-rest g c =
    let none = none_here c.args.lines.now c.loop-line.line-index c.loop-line.auto.line-index-end c.loop-line-test.false in
    rw (← c.loop-line.invariant.left) (sym (no_behind _ c.loop-line.rest.now none))

pub returns-clause-least : goal.returns-clause-least
returns-clause-least g c =
    let none = none_here c.args.lines.now c.loop-line.line-index c.loop-line.auto.line-index-end c.loop-line-test.false in
    least_all _ _ _ _ _ _ _ _ c.loop-line.invariant.answered (no_texts _ c.loop-line.rest.now none)

pub returns-clause-paid : goal.returns-clause-paid
returns-clause-paid g c =
    let none = none_here c.args.lines.now c.loop-line.line-index c.loop-line.auto.line-index-end c.loop-line-test.false in
    most_all _ _ _ _ _ _ _ _ c.loop-line.invariant.answered (no_texts _ c.loop-line.rest.now none)
