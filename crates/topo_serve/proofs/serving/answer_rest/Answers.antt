use Rattle.std.proofs.Common.{[], append-nil, arith, rules}
use Rattle.plane_model.specs.Answers.{answer}
use Rattle.ports.proofs.Results.{on_ok_always}
use Rattle.navigate.specs.Bound.{served_map}
use Rattle.topo_serve.specs.Serving.{words_of_line, found_by_reads}
use Rattle.topo_serve.proofs.Ending.{last_none}
use Rattle.topo_serve.proofs.Piecing.{answers_last, over_last, over_none, words_in_line}
use Rattle.topo_serve.proofs.Writing.{writes_nothing, writes_failed, writes_more}
use Rattle.topo_serve.proofs.serving.answer_rest.Goals as goal

pub returns-then-is_empty-clause-writes : goal.returns-then-is_empty-clause-writes
returns-then-is_empty-clause-writes g c = rw (last_none c.args.line.now (search rules)) (writes_nothing tt _)

pub returns-then-is_empty-clause-least : goal.returns-then-is_empty-clause-least
returns-then-is_empty-clause-least g c = omega (arith, over_none (found_by_reads (served_map c.args.served.now)) c.args.line.now (search rules))

pub returns-in_err-answer_line-clause-writes : goal.returns-in_err-answer_line-clause-writes
returns-in_err-answer_line-clause-writes g c =
    rw (answers_last (served_map c.args.served.now) c.args.line.now (search rules), ← append-nil (answer (served_map c.args.served.now) c.args.line.now))
    (writes_failed _ _ _ _ _ _ [] c.from_residual.ensures.1 c.in_err-answer_line.ensures.writes)

pub returns-in_err-answer_line-clause-paid : goal.returns-in_err-answer_line-clause-paid
returns-in_err-answer_line-clause-paid g c = omega (arith, c.in_err-answer_line.ensures.paid, words_in_line (served_map c.args.served.now) c.args.line.now, over_last (words_of_line (served_map c.args.served.now)) c.args.line.now (search rules))

pub returns-clause-writes : goal.returns-clause-writes
returns-clause-writes g c =
    rw (answers_last (served_map c.args.served.now) c.args.line.now (search rules), ← append-nil (answer (served_map c.args.served.now) c.args.line.now))
    (writes_more _ c.put_out.result _ _ _ _ [] c.in_ok-answer_line.ensures.writes c.put_out.ensures.writes)

pub returns-clause-least : goal.returns-clause-least
returns-clause-least g c =
    on_ok_always c.put_out.result (omega (arith, c.in_ok-answer_line.ensures.least, over_last (found_by_reads (served_map c.args.served.now)) c.args.line.now (search rules)))

pub returns-clause-paid : goal.returns-clause-paid
returns-clause-paid g c = omega (arith, c.in_ok-answer_line.ensures.paid, words_in_line (served_map c.args.served.now) c.args.line.now, over_last (words_of_line (served_map c.args.served.now)) c.args.line.now (search rules))
