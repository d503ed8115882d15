use Rattle.std.proofs.Common.{length, refl, ap, ◌∙◌, arith}
use Rattle.bit_words.specs.BitView.{bits_of}
use Rattle.turan_code.specs.TuranView.{code_of_parts, code_of_view}
use Rattle.pemb_file.proofs.OuterRings.{tree-read, open-read, depth-few, place-few, gap-tree, place-there, gap-open, some-depth, gap-close}
use Rattle.pemb_file.proofs.places.Gap.pass.Goals as goal

pub returns-then-bit-clause-gap : goal.returns-then-bit-clause-gap
returns-then-bit-clause-gap g c =
    let k = code_of_view c.args.code.now in
    let is = tree-read k (code_of_parts c.parts-parts.result) c.args.p (bits_of c.bits.result) c.bit.result c.bit.ensures.bit c.bits.ensures.bits c.parts-parts.ensures.code ∙ c.if-bit.true in
    gap-tree k c.args.code.now.sound c.args.p c.requires.within c.args.self.now c.requires.gap is

pub is_open-opens-requires : goal.is_open-opens-requires
is_open-opens-requires g c =
    let k = code_of_view c.args.code.now in
    let is = tree-read k (code_of_parts c.parts-parts.result) c.args.p (bits_of c.bits.result) c.bit.result c.bit.ensures.bit c.bits.ensures.bits c.parts-parts.ensures.code ∙ c.if-bit.false in
    let below = place-there k c.args.code.now.sound c.args.p c.requires.within c.args.self.now c.requires.gap is in
    omega (arith, below, ap (λ x. length x.dual) c.parts-parts.ensures.code)

pub overflow_add-self : goal.overflow_add-self
overflow_add-self g c =
    let k = code_of_view c.args.code.now in
    let few = place-few k c.args.code.now.sound c.args.p c.requires.within c.args.self.now c.requires.gap in
    omega (arith, few, c.requires.within, c.args.code.now.few)

pub overflow_add-self-then-opens : goal.overflow_add-self-then-opens
overflow_add-self-then-opens g c =
    let k = code_of_view c.args.code.now in
    let few = depth-few k c.args.code.now.sound c.args.p c.requires.within c.args.self.now c.requires.gap in
    omega (arith, few, c.requires.within, c.args.code.now.few)

pub overflow_sub-self : goal.overflow_sub-self
overflow_sub-self g c =
    let k = code_of_view c.args.code.now in
    let is = tree-read k (code_of_parts c.parts-parts.result) c.args.p (bits_of c.bits.result) c.bit.result c.bit.ensures.bit c.bits.ensures.bits c.parts-parts.ensures.code ∙ c.if-bit.false in
    let opens = open-read k (code_of_parts c.parts-parts.result) c.args.self.now.place c.is_open-opens.result c.is_open-opens.ensures.open c.parts-parts.ensures.code ∙ c.if-opens.false in
    some-depth k c.args.code.now.sound c.args.p c.requires.within c.args.self.now c.requires.gap is opens

pub returns-then-opens-clause-gap : goal.returns-then-opens-clause-gap
returns-then-opens-clause-gap g c =
    let k = code_of_view c.args.code.now in
    let is = tree-read k (code_of_parts c.parts-parts.result) c.args.p (bits_of c.bits.result) c.bit.result c.bit.ensures.bit c.bits.ensures.bits c.parts-parts.ensures.code ∙ c.if-bit.false in
    let opens = open-read k (code_of_parts c.parts-parts.result) c.args.self.now.place c.is_open-opens.result c.is_open-opens.ensures.open c.parts-parts.ensures.code ∙ c.if-opens.true in
    gap-open k c.args.code.now.sound c.args.p c.requires.within c.args.self.now c.requires.gap is opens _ refl refl

pub returns-else-opens-clause-gap : goal.returns-else-opens-clause-gap
returns-else-opens-clause-gap g c =
    let k = code_of_view c.args.code.now in
    let is = tree-read k (code_of_parts c.parts-parts.result) c.args.p (bits_of c.bits.result) c.bit.result c.bit.ensures.bit c.bits.ensures.bits c.parts-parts.ensures.code ∙ c.if-bit.false in
    let opens = open-read k (code_of_parts c.parts-parts.result) c.args.self.now.place c.is_open-opens.result c.is_open-opens.ensures.open c.parts-parts.ensures.code ∙ c.if-opens.false in
    let some = some-depth k c.args.code.now.sound c.args.p c.requires.within c.args.self.now c.requires.gap is opens in
    gap-close k c.args.code.now.sound c.args.p c.requires.within c.args.self.now c.requires.gap is opens _ (omega (arith, some)) refl
