use Rattle.std.proofs.Common.{refl}
use Rattle.bit_words.proofs.BitLists.{chunk_whole, chunk_cut}
use Rattle.bit_words.specs.WordView.{words_of}
use Rattle.bit_words.proofs.bit_view.BitView.chunk.Goals as goal

pub returns-then-left-lt64-clause-bits : goal.returns-then-left-lt64-clause-bits
returns-then-left-lt64-clause-bits g c = rw c.word-word.ensures.word (chunk_cut (words_of c.args.self.now.words) c.args.self.now.len c.args.j _ refl c.requires c.if-left-lt64.true)

pub returns-else-left-lt64-clause-bits : goal.returns-else-left-lt64-clause-bits
returns-else-left-lt64-clause-bits g c = rw c.word-word.ensures.word (chunk_whole (words_of c.args.self.now.words) c.args.self.now.len c.args.j c.if-left-lt64.false)
