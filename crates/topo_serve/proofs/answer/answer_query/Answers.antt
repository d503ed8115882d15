use Rattle.std.proofs.Common.{codes, subst, ◌++◌}
use Rattle.topo_base.specs.Script.{without_cr}
use Rattle.query_text.specs.Lines.{IsAsk, line_of}
use Rattle.navigate.specs.Bound.{served_map}
use Rattle.topo_serve.proofs.Answering.{head_failed, head_text, items_failed, query_written}
use Rattle.topo_serve.proofs.answer.answer_query.Goals as goal

pub gather_head-requires : goal.gather_head-requires
gather_head-requires g c = subst IsAsk c.requires.said c.requires.ask

pub returns-in_err-gather_head-clause-writes : goal.returns-in_err-gather_head-clause-writes
returns-in_err-gather_head-clause-writes g c =
    head_failed _ _ _ (served_map c.args.served.now) (line_of c.args.query.now) _ _ (without_cr c.args.line.now ++ codes ":") c.requires.ask
    (head_text (line_of c.args.query.now) c.args.line.now c.requires.said) c.from_residual.ensures.1 c.in_err-gather_head.ensures

pub returns-in_err-answer_items-clause-writes : goal.returns-in_err-answer_items-clause-writes
returns-in_err-answer_items-clause-writes g c =
    items_failed _ _ _ _ (served_map c.args.served.now) (line_of c.args.query.now) _ _ _ (without_cr c.args.line.now ++ codes ":") c.requires.ask
    (head_text (line_of c.args.query.now) c.args.line.now c.requires.said)
    c.from_residual-in_err-answer_items.ensures.1 c.in_ok-gather_head.ensures c.in_err-answer_items.ensures.writes

pub returns-clause-writes : goal.returns-clause-writes
returns-clause-writes g c =
    query_written _ _ (served_map c.args.served.now) (line_of c.args.query.now) _ _ _ _ (without_cr c.args.line.now ++ codes ":") c.requires.ask
    (head_text (line_of c.args.query.now) c.args.line.now c.requires.said)
    c.in_ok-gather_head.ensures c.in_ok-answer_items.ensures.writes c.gather.ensures
