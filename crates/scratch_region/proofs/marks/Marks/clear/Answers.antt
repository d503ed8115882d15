use Rattle.std.proofs.Common.{◌/◌, ◌%◌, arith, w64, get_or, ap}
use Rattle.std.specs.Prelude.{◌==◌}
use Rattle.std.proofs.lemmas.Nat.Bits.{bit_at_clear_same, bit_at_clear_other}
use Rattle.scratch_region.specs.Marks.{is_marked}
use Rattle.scratch_region.proofs.Marking.{changed}
use Rattle.scratch_region.proofs.marks.Marks.clear.Goals as goal

pub returns-clause-marked : goal.returns-clause-marked
unfolding is_marked
returns-clause-marked c = λ j.
    changed c.args.self.now.words.now c.args.i j _ _ (omega arith)
    (λ k l n. bit_at_clear_other w64 (get_or c.args.self.now.words.now (c.args.i / 64) 0) (c.args.i % 64) (omega arith) k l n)
    (ap (λ x. x == 1) (bit_at_clear_same w64 (get_or c.args.self.now.words.now (c.args.i / 64) 0) (c.args.i % 64) (omega arith)))
