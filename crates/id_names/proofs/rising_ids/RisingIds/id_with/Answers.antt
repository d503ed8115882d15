use Rattle.std.proofs.Common.{length, arith}
use Rattle.bit_words.specs.PackedView.{fields_of}
use Rattle.rank_select.specs.RankView.{counted}
use Rattle.id_names.proofs.DigitBounds.{high_digits}
use Rattle.id_names.proofs.rising_ids.RisingIds.id_with.Goals as goal

pub returns-clause-cost : goal.returns-clause-cost
returns-clause-cost g c = omega (arith, high_digits (length (fields_of c.args.self.now.lows)) (length (counted c.args.self.now.high)) c.args.self.now.size)
