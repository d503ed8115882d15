use Rattle.std.proofs.Common.{◌+◌, sym, ◌∙◌}
use Rattle.std.proofs.lemmas.List.{length-drop}
use Rattle.std.proofs.Math.Seq.{take-length}
use Rattle.query_text.proofs.Words.{words_at, words_without}
use Rattle.query_text.proofs.reading.split_word.Goals as goal

pub returns-in-Some : goal.returns-in-Some
returns-in-Some c =
    let w = words_at c.args.bytes.now c.in-Some.at (sym c.first_space.ensures ∙ c.in-Some.is) in
    rw (← length-drop (c.in-Some.at + 1) c.args.bytes.now, take-length) w

pub returns-in-None : goal.returns-in-None
returns-in-None c = words_without c.args.bytes.now (sym c.first_space.ensures ∙ c.in-None.is)
