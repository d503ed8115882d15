use Rattle.std.proofs.Common.{◌<◌, ◌^◌, length, subst, sym}
use Rattle.bit_words.specs.Packed.{PackedList}
use Rattle.bit_words.specs.Bits.{fields_in}
use Rattle.bit_words.proofs.Streams.{Packs-more, length-fields_in}
use Rattle.bit_words.proofs.packed_maker.PackedMaker.push.Goals as goal

pub invariant_of-self-2 : goal.invariant_of-self-2
invariant_of-self-2 c =
    let inside = c.self.inside in
    let room : length (fields_in inside.words.items inside.count inside.width) < 2147483647 =
    subst (λ (p : PackedList). length p.items < 2147483647) (sym c.self.view_is) c.requires.room in
    let fits : c.args.value < 2 ^ inside.width = subst (λ (p : PackedList). c.args.value < 2 ^ p.width) (sym c.self.view_is) c.requires.fits in
    Packs-more inside.words.items c.append.new.words.items inside.count inside.width c.args.value c.self.invariant c.in_ok-append.ensures.stream fits (rw length-fields_in at room) c.in_ok-append.ensures.size
