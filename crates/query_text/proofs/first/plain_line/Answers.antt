use Rattle.std.proofs.Common.{refl}
use Rattle.query_text.specs.Forms.{word_of}
use Rattle.query_text.specs.Lines.{line_of}
use Rattle.query_text.proofs.Firsts.{begins}
use Rattle.query_text.proofs.first.plain_line.Goals as goal

pub returns : goal.returns
returns c =
    let behind = c.in_ok-behind.behind in
    begins (line_of behind.query) c.args.script.now (word_of c.in_ok-form.form) c.in_ok-form.rest.now behind.end _ c.in_ok-form.ensures refl
    c.in_ok-behind.ensures.within c.in_ok-behind.ensures.feed c.in_ok-behind.ensures.text
