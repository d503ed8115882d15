use Rattle.std.proofs.Common.{◌<◌, ◌≤◌, ◌+◌, ◌*◌, ◌/◌, length, slice_index, ap, ◌∙◌, arith, ℕ}
use Rattle.std.proofs.lemmas.List.{take_rest}
use Rattle.byteorder.specs.Endian.{little_number}
use Rattle.bit_words.proofs.ByteStreams.{four_bytes}
use Rattle.bit_words.proofs.word_view.four_bytes.Goals as goal

pub returns : goal.returns
returns c =
    let bytes = c.args.bytes.now in
    let small : (i : ℕ) → slice_index bytes i < 256 = λ i. omega (arith, (c.type_inv.bytes i).fits) in
    let within : c.args.byte + 4 ≤ 8 * (length bytes / 8) = omega (arith, c.requires.whole, c.requires.within) in
    c.read_u32.ensures ∙ ap (little_number 4) (take_rest bytes c.args.byte) ∙ four_bytes (length bytes / 8) c.args.byte bytes small within
