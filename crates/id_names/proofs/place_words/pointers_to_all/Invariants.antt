use Rattle.std.proofs.Common.{◌≡◌, map}
use Rattle.std.specs.Prelude.{filter_map}
use Rattle.std.specs.List.{range_with_len}
use Rattle.id_names.specs.Cycles.{one_before}
use Rattle.id_names.proofs.place_words.pointers_to_all.Given as goal

abbrev pub invariant-loop-number : goal.invariant-loop-number
invariant-loop-number l = l.back ≡ record { width = l.fn.width; items = filter_map (λ pointer. pointer) (map (one_before l.numbers) (range_with_len 0 l.number)) }
