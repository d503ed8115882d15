use Rattle.std.proofs.Common.{ap, ◌∙◌, length}
use Rattle.bit_words.specs.Bits.{bits_in}
use Rattle.turan_code.proofs.MadeCode.{made_code}
use Rattle.turan_code.proofs.tests.image.image_of.Goals as goal

pub returns : goal.returns
returns c =
    made_code c.args.walk.tree.now c.args.walk.first.now c.args.walk.starts.now c.in_ok-words.words
    c.in_ok-new.field-0 c.in_ok-new-2.field-0 c.in_ok-new-3.field-0
    c.count_of.result c.count_of-2.result c.in_ok-bytes_of.field-0.items
    c.requires.same c.in_ok-words.ensures
    (c.in_ok-new.ensures ∙ ap (λ words. bits_in words (length c.args.walk.tree.now)) c.as_slice.ensures.value)
    (c.in_ok-new-2.ensures ∙ ap (λ words. bits_in words c.count_of.result) c.as_slice-3.ensures.value)
    (c.in_ok-new-3.ensures ∙ ap (λ words. bits_in words c.count_of-2.result) c.as_slice-6.ensures.value)
    c.count_of.ensures c.count_of-2.ensures
    (c.in_ok-bytes_of.ensures ∙ c.as_slice-9.ensures.value)
