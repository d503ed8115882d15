use Rattle.std.proofs.Common.{◌≡◌, ◌<◌, ◌/◌, ◌+◌, ◌%◌, ◌^◌, ◌*◌, sym, ◌∙◌, arith, subst, rules, length, get_or}
use Rattle.std.proofs.lemmas.List.{get_or_read}
use Rattle.bit_words.specs.Bits.{field_at, fields_in}
use Rattle.bit_words.specs.Packed.{PackedList}
use Rattle.bit_words.proofs.Streams.{value_one, value_two, get_or-fields_in, length-fields_in, field_within, field_within_next}
use Rattle.bit_words.proofs.packed_maker.PackedMaker.field.Goals as goal
use Rattle.bit_words.proofs.packed_maker.PackedMaker.field.Goals.{then-self-room, else-self-room}

pub returns : goal.returns
returns c =
    let inside = c.self.inside in
    let words = inside.words.items in
    let from = c.args.i * inside.width in
    let in_list : c.args.i < length (fields_in words inside.count inside.width) = subst (λ (p : PackedList). c.args.i < length p.items) (sym c.self.view_is) c.requires in
    let below : c.args.i < inside.count = rw length-fields_in at in_list in
    let inv = c.self.invariant in
    let q = field_within c.args.i inside.count inside.width (length words) inv.size below inv.some in
    let first = get_or_read words (from / 64) c.index.result.now q c.index.ensures 0 in
    let value : c.if-self-room.value % 2 ^ inside.width ≡ field_at words from inside.width = elim c.if-self-room.branch [
      | then-self-room w ↦
          let small : c.index.result.now < 2 ^ 64 = search rules in
          rw w.value-is (value_one words from inside.width c.index.result.now first small w.if-self-room.true)
      | else-self-room w ↦
          let small : c.index.result.now < 2 ^ 64 = search rules in
          let q' = field_within_next c.args.i inside.count inside.width (length words) inv.size below (omega arith) in
          let next = get_or_read words (from / 64 + 1) w.index-else-self-room.result.now q' w.index-else-self-room.ensures 0 in
          let small' : w.index-else-self-room.result.now < 2 ^ 64 = search rules in
          rw w.value-is (value_two words from inside.width c.index.result.now w.index-else-self-room.result.now first next small small' c.self.invariant.narrow)
    ] in
    subst (λ (p : PackedList). c.low_bits.result ≡ get_or p.items c.args.i 0) c.self.view_is
    (c.low_bits.ensures ∙ value ∙ sym (get_or-fields_in words inside.count inside.width c.args.i 0 below))
