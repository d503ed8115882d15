use Rattle.std.proofs.Common.{◌≡◌, ◌<◌, ◌+◌, ◌*◌, ◌==◌, ℕ, sym, ap, ◌∙◌, arith, subst, length, get_or, map, false}
use Rattle.std.proofs.lemmas.List.{get_or_read}
use Rattle.bit_words.specs.Bits.{fields_in, is_set, HoldsBits}
use Rattle.bit_words.specs.Packed.{PackedList, Packs}
use Rattle.bit_words.proofs.BitLists.{bit_of-word}
use Rattle.bit_words.proofs.Streams.{length-fields_in, Packs-bits}
use Rattle.bit_words.proofs.packed_maker.PackedMaker.chunk.Goals as goal

pub returns : goal.returns
returns c k h =
    let words = c.self.inside.words.items in
    let count = c.self.inside.count in
    let width = c.self.inside.width in
    let one : width ≡ 1 = subst (λ (p : PackedList). p.width ≡ 1) (sym c.self.view_is) c.requires.bits in
    let some : 64 * c.args.j < length (fields_in words count width) = subst (λ (p : PackedList). 64 * c.args.j < length p.items) (sym c.self.view_is) c.requires.within in
    let items = fields_in words count width in
    let e : length items ≡ count = length-fields_in words count width in
    let packs : Packs words (length items) 1 = rw e (subst (λ (n : ℕ). Packs words count n) one c.self.invariant) in
    let fields : fields_in words (length items) 1 ≡ items = rw e (ap (fields_in words count) (sym one)) in
    let holds : HoldsBits words (map (λ x. x == 1) items) = Packs-bits words items packs fields in
    let size = packs.size in
    let read = get_or_read words c.args.j c.index.result.now (omega (arith, size, some)) c.index.ensures 0 in
    subst (λ (p : PackedList). is_set c.index.result.now k ≡ get_or (map (λ x. x == 1) p.items) (64 * c.args.j + k) false) c.self.view_is
    (ap (λ x. is_set x k) read ∙ sym (bit_of-word words c.args.j k h) ∙ holds.bit (64 * c.args.j + k))
