use Rattle.std.proofs.Common.{List, ℕ, Bool, length, subst, ◌≡◌}
use Rattle.bit_words.specs.Bits.{HoldsBits, fields_in, bits_in}
use Rattle.bit_words.specs.Packed.{Packs}
use Rattle.bit_words.proofs.Streams.{Packs-bits, bits_in-held}
use Rattle.bit_words.proofs.bit_maker.BitMaker.finish.Goals as goal

pub returns-clause-holds : goal.returns-clause-holds
returns-clause-holds c =
    let items = c.self.inside.bits.items in
    let words = c.finish.result.items in
    let packs : Packs words (length items) 1 = subst (λ (n : ℕ). Packs words (length items) n) c.self.invariant c.finish.ensures.packs in
    let fields : fields_in words (length items) 1 ≡ items = subst (λ (n : ℕ). fields_in words (length items) n ≡ items) c.self.invariant c.finish.ensures.fields in
    subst (λ (bits : List Bool). HoldsBits words bits) c.self.view_is (Packs-bits words items packs fields)

pub returns-clause-bits : goal.returns-clause-bits
returns-clause-bits c =
    let items = c.self.inside.bits.items in
    let words = c.finish.result.items in
    let packs : Packs words (length items) 1 = subst (λ (n : ℕ). Packs words (length items) n) c.self.invariant c.finish.ensures.packs in
    let fields : fields_in words (length items) 1 ≡ items = subst (λ (n : ℕ). fields_in words (length items) n ≡ items) c.self.invariant c.finish.ensures.fields in
    subst (λ (bits : List Bool). bits_in words (length bits) ≡ bits) c.self.view_is (bits_in-held words _ (Packs-bits words items packs fields))
