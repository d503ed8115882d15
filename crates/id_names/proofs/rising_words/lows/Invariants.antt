use Rattle.std.proofs.Common.{◌≡◌, ◌%◌, ◌^◌, map, take}
use Rattle.id_names.proofs.rising_words.lows.Given as goal

-- the low parts of the entries so far
abbrev pub invariant-loop-entry : goal.invariant-loop-entry
invariant-loop-entry l = l.lows ≡ record { width = l.low; items = map (λ n. n.id % 2 ^ l.low) (take l.entry-index l.entries) }
