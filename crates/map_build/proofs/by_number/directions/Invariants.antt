use Rattle.std.proofs.Common.{◌≡◌, ◌%◌, ◌==◌, false, length, slice_index, slice_index_or}
use Rattle.map_build.specs.ByNumber.{StandByNumber}
use Rattle.map_build.proofs.by_number.directions.Given as goal

abbrev pub invariant-loop-p : goal.invariant-loop-p
invariant-loop-p l = record { len : length l.forward.items ≡ l.count; forward : StandByNumber false (slice_index l.numbers) (λ p. slice_index l.darts p % 2 == 0) (λ p. slice_index_or l.first p false) l.p l.forward.items }
