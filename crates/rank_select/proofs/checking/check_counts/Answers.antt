use Rattle.std.proofs.Common.{◌∙◌, sym, arith}
use Rattle.std.proofs.lemmas.List.{ext_get_or}
use Rattle.bit_words.specs.BitView.{bits_of}
use Rattle.bit_words.specs.PackedView.{fields_of}
use Rattle.rank_select.specs.Counts.{counts_of}
use Rattle.rank_select.proofs.CountLaws.{length-counts_of}
use Rattle.rank_select.proofs.checking.check_counts.Goals as goal

pub returns-clause-checked : goal.returns-clause-checked
returns-clause-checked g c =
    let bits = bits_of c.args.bits in
    ext_get_or 0 (fields_of c.args.counts) (counts_of bits) (c.requires.count ∙ sym (length-counts_of bits))
    (λ i h. c.loop-at.invariant.same i (omega arith))
