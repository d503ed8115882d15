use Rattle.id_names.proofs.HighBits.{AreBuckets}
use Rattle.id_names.proofs.rising_words.high_parts.Given as goal

-- the buckets of the high parts so far
abbrev pub invariant-loop-high : goal.invariant-loop-high
invariant-loop-high l = AreBuckets l.low l.ids l.entries l.high l.place l.bits
