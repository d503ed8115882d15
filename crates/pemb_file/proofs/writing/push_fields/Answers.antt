use Rattle.pemb_file.proofs.Grown.{ok_then, fields-in}
use Rattle.pemb_file.proofs.writing.push_fields.Goals as goal

pub returns : goal.returns
returns c =
    ok_then c.push_words.result
    (λ e number.
    fields-in number c.args.image.now.items c.push_words.new.image.items c.deref.result.now c.finish-words.result.items c.deref.ensures.value c.push_words.ensures.below e
    c.args.items.now c.in_ok-packed_numbers.field-0 c.in_ok-packed_numbers.ensures c.finish-words.ensures.packs c.finish-words.ensures.fields)
    c.push_words.ensures.bytes
