use Rattle.std.proofs.Common.{◌≡◌, map}
use Rattle.std.specs.Prelude.{is_some}
use Rattle.std.specs.List.{range_with_len}
use Rattle.id_names.specs.Cycles.{one_before}
use Rattle.id_names.proofs.place_words.marks_of_all.Given as goal

abbrev pub invariant-loop-number : goal.invariant-loop-number
invariant-loop-number l = l.marks ≡ map is_some (map (one_before l.numbers) (range_with_len 0 l.number))
