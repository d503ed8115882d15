use Rattle.rank_select.specs.RankView.{counted}
use Rattle.rank_select.proofs.CountLaws.{chunk_true, chunk_false}
use Rattle.rank_select.proofs.view.RankView.kind_chunk.Goals as goal

pub returns-then-kind-clause-chunk : goal.returns-then-kind-clause-chunk
returns-then-kind-clause-chunk g c = rw c.if-kind.true (chunk_true (counted c.args.self.now) c.args.word c.word-chunk.result c.word-chunk.ensures.bits)

pub returns-else-kind-clause-chunk : goal.returns-else-kind-clause-chunk
returns-else-kind-clause-chunk g c = rw c.if-kind.false (chunk_false (counted c.args.self.now) c.args.word c.word-chunk.result c.word-chunk.type_inv c.word-chunk.ensures.bits)
