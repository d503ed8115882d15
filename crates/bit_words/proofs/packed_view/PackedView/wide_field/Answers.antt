use Rattle.std.proofs.Common.{◌≡◌, ◌%◌, ◌^◌, ◌*◌, sym, ◌∙◌}
use Rattle.bit_words.specs.Bits.{field_at}
use Rattle.bit_words.specs.WordView.{words_of}
use Rattle.bit_words.proofs.Streams.{value_one, value_two, get_or-fields_in, length-fields_in}
use Rattle.bit_words.proofs.packed_view.PackedView.wide_field.Goals as goal
use Rattle.bit_words.proofs.packed_view.PackedView.wide_field.Goals.{then-self-room, else-self-room}

pub returns-clause-field : goal.returns-clause-field
returns-clause-field g c =
    let view = c.args.self.now in
    let words = words_of view.words in
    let from = c.args.i * view.width in
    let value : c.if-self-room.value % 2 ^ view.width ≡ field_at words from view.width = elim c.if-self-room.branch [
      | then-self-room w ↦ rw w.value-is (value_one words from view.width c.word.result c.word.ensures.word c.word.type_inv w.if-self-room.true)
      | else-self-room w ↦ rw w.value-is (value_two words from view.width c.word.result w.word-else-self-room.result c.word.ensures.word w.word-else-self-room.ensures.word c.word.type_inv w.word-else-self-room.type_inv view.narrow)
    ] in
    c.low_bits.ensures ∙ value ∙ sym (get_or-fields_in words view.count view.width c.args.i 0 (rw length-fields_in at c.requires))
