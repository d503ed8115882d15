use Rattle.bit_words.specs.PackedView.{fields_of}
use Rattle.rank_select.specs.RankView.{counted}
use Rattle.id_names.proofs.Waiting.{AreCounted}
use Rattle.id_names.proofs.ways.on_ways.Given as goal

abbrev pub invariant-loop-mark : goal.invariant-loop-mark
invariant-loop-mark g l = AreCounted (fields_of l.inverse.places) (counted l.inverse.marks) (fields_of l.inverse.back) l.initial.steps l.mark l.count l.waiting l.steps
