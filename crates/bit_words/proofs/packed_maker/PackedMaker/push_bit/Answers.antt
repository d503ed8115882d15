use Rattle.std.proofs.Common.{arith, ◌≡◌, ◌<◌, ◌*◌, ◌^◌, length, subst, sym}
use Rattle.bit_words.specs.Packed.{PackedList}
use Rattle.bit_words.specs.Bits.{fields_in}
use Rattle.bit_words.proofs.Streams.{Packs-more, length-fields_in}
use Rattle.bit_words.proofs.packed_maker.PackedMaker.push_bit.Goals as goal

pub invariant_of-self-2 : goal.invariant_of-self-2
invariant_of-self-2 c =
    let inside = c.self.inside in
    let one : inside.width ≡ 1 = subst (λ (p : PackedList). p.width ≡ 1) (sym c.self.view_is) c.requires.bits in
    let room : length (fields_in inside.words.items inside.count inside.width) < 2147483647 =
    subst (λ (p : PackedList). length p.items < 2147483647) (sym c.self.view_is) c.requires.room in
    let times : inside.count * inside.width ≡ inside.count = rw one (omega arith) in
    let fits : c.args.value < 2 ^ inside.width = rw one c.requires.fits in
    Packs-more inside.words.items c.append_bit.new.words.items inside.count inside.width c.args.value c.self.invariant (rw times c.in_ok-append_bit.ensures.stream) fits (rw length-fields_in at room) (rw (times, one) (let size = c.in_ok-append_bit.ensures.size in omega arith))
