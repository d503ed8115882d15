use Rattle.std.proofs.Common.{sym, ap, ◌∙◌}
use Rattle.topo_base.specs.Script.{ask_or_bad}
use Rattle.query_text.specs.Lines.{line_or_bad}
use Rattle.query_text.proofs.Queries.{with_rest, with_none, with_unknown}
use Rattle.query_text.proofs.reading.read_query.Goals as goal

pub returns-in_err-form : goal.returns-in_err-form
returns-in_err-form c =
    ap line_or_bad c.from_residual.ensures
    ∙ sym (ap ask_or_bad (with_unknown c.args.bytes.now c.split_word.result.0.now c.split_word.result.1 c.split_word.ensures c.in_err-form.ensures.unknown))

pub returns-in-Some : goal.returns-in-Some
returns-in-Some c =
    c.with_arguments.ensures
    ∙ sym (ap ask_or_bad (with_rest c.args.bytes.now c.split_word.result.0.now c.split_word.result.1 c.in-Some.arguments c.in_ok-form.form c.split_word.ensures c.in-Some.is c.in_ok-form.ensures.known))

pub returns-in-None : goal.returns-in-None
returns-in-None c =
    c.alone.ensures
    ∙ sym (ap ask_or_bad (with_none c.args.bytes.now c.split_word.result.0.now c.split_word.result.1 c.in_ok-form.form c.split_word.ensures c.in-None.is c.in_ok-form.ensures.known))
