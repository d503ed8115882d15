use Rattle.std.proofs.Common.{◌++◌, arith, ap, ◌∙◌}
use Rattle.image_words.proofs.WordBytes.{words_back, one_more, all_done}
use Rattle.image_words.proofs.bytes.bytes_of.Goals as goal

pub loop-word-preserved : goal.loop-word-preserved
loop-word-preserved c = one_more c.args.words.now c.loop-word.word-index c.loop-word.bytes.items c.extend_from_slice.new.self.items (omega arith) (c.in_ok-extend_from_slice.ensures.items ∙ ap (λ bytes. c.loop-word.bytes.items ++ bytes) c.to_le_bytes.ensures) c.loop-word.invariant

pub returns : goal.returns
returns c = words_back c.loop-word.bytes.items c.args.words.now (λ k. omega (arith, c.type_inv.words k)) (all_done c.args.words.now c.loop-word.word-index c.loop-word.bytes.items (omega arith) c.loop-word.invariant)
