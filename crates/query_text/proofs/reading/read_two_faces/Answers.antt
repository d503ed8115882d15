use Rattle.std.proofs.Common.{sym, ap, ◌∙◌, None, Some}
use Rattle.topo_base.specs.Script.{ask_or_bad}
use Rattle.query_text.specs.Lines.{line_or_bad}
use Rattle.query_text.proofs.Queries.{two_faces_cut}
use Rattle.query_text.proofs.reading.read_two_faces.Goals as goal

pub returns-in_err-read_id-2 : goal.returns-in_err-read_id-2
returns-in_err-read_id-2 c =
    ap line_or_bad c.from_residual-in_err-read_id-2.ensures
    ∙ sym (ap ask_or_bad (two_faces_cut c.args.text.now c.split_word.result.0.now c.split_word.result.1 c.in_ok-other.field-0 c.in_ok-read_id.field-0 None
    c.split_word.ensures c.in_ok-other.was (sym c.read_id.ensures ∙ c.in_ok-read_id.was) (sym c.read_id-2.ensures ∙ c.in_err-read_id-2.was)))

pub returns : goal.returns
returns c =
    sym (ap ask_or_bad (two_faces_cut c.args.text.now c.split_word.result.0.now c.split_word.result.1 c.in_ok-other.field-0 c.in_ok-read_id.field-0 (Some c.in_ok-read_id-2.field-0)
    c.split_word.ensures c.in_ok-other.was (sym c.read_id.ensures ∙ c.in_ok-read_id.was) (sym c.read_id-2.ensures ∙ c.in_ok-read_id-2.was)))
