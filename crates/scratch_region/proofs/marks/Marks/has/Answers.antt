use Rattle.std.proofs.Common.{◌/◌, ◌%◌, get_or, ap}
use Rattle.std.specs.Prelude.{◌==◌}
use Rattle.std.proofs.lemmas.Nat.Bits.{shr_and_one}
use Rattle.bit_words.specs.Bits.{bit_of, is_set}
use Rattle.scratch_region.specs.Marks.{is_marked}
use Rattle.scratch_region.proofs.marks.Marks.has.Goals as goal

pub returns : goal.returns
unfolding is_marked bit_of is_set
returns c = ap (λ x. x == 1) (shr_and_one (get_or c.args.self.now.words.now (c.args.i / 64) 0) (c.args.i % 64))
