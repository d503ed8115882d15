use Rattle.std.proofs.Common.{◌++◌, ◌∙◌}
use Rattle.navigate.specs.Bound.{served_map}
use Rattle.topo_serve.proofs.Piecing.{line_answered, line_found, line_words}
use Rattle.topo_serve.proofs.piece.answer_ended.Goals as goal

pub returns-clause-writes : goal.returns-clause-writes
returns-clause-writes g c =
    line_answered _ (served_map c.args.served.now) (c.args.line.now.items ++ c.args.end.now) _ _ _ (c.as_slice.ensures.value ∙ c.go_on.ensures) c.answer_line-answered.ensures.writes

pub returns-clause-least : goal.returns-clause-least
returns-clause-least g c = rw (← line_found (served_map c.args.served.now) (c.args.line.now.items ++ c.args.end.now) _ (c.as_slice.ensures.value ∙ c.go_on.ensures)) c.answer_line-answered.ensures.least

pub returns-clause-paid : goal.returns-clause-paid
returns-clause-paid g c = rw (← line_words (served_map c.args.served.now) (c.args.line.now.items ++ c.args.end.now) _ (c.as_slice.ensures.value ∙ c.go_on.ensures)) c.answer_line-answered.ensures.paid
