use Rattle.std.proofs.Common.{◌++◌, arith, ap, ◌∙◌}
use Rattle.pemb_file.proofs.ImageBytes.{one_more, all_bytes}
use Rattle.pemb_file.proofs.writing.push_words.Goals as goal

pub loop-word-preserved : goal.loop-word-preserved
loop-word-preserved c =
    one_more c.args.words.now c.loop-word.word-index c.loop-word.image.items c.push_bytes.new.image.items _ (omega arith)
    (c.in_ok-push_bytes.ensures ∙ ap (λ bytes. c.loop-word.image.items ++ bytes) c.to_le_bytes.ensures) c.loop-word.invariant

pub returns-clause-bytes : goal.returns-clause-bytes
returns-clause-bytes c = all_bytes c.args.words.now c.loop-word.word-index c.loop-word.image.items _ (omega arith) c.loop-word.invariant
