use Rattle.pemb_file.proofs.Grown.{ok_then, bits-in}
use Rattle.pemb_file.proofs.writing.push_bits.Goals as goal

pub returns : goal.returns
returns c =
    ok_then c.push_words.result
    (λ e number.
    bits-in number c.args.image.now.items c.push_words.new.image.items c.deref.result.now c.finish-words.result.items c.deref.ensures.value c.push_words.ensures.below e
    c.in_ok-all_bits.field-0 c.args.bits.now c.requires c.in_ok-all_bits.ensures c.finish-words.ensures.holds)
    c.push_words.ensures.bytes
