use Rattle.std.proofs.Common.{◌≡◌, ◌≤◌, ◌+◌, ◌-◌, ◌*◌, ◌/◌, ◌^◌, ◌%◌, length, ap, ◌∙◌, arith}
use Rattle.bit_words.specs.WordView.{words_of}
use Rattle.bit_words.specs.Bits.{field_at}
use Rattle.bit_words.proofs.WordLists.{length-words_in}
use Rattle.bit_words.proofs.ByteStreams.{field_in_field}
use Rattle.bit_words.proofs.word_view.WordView.bits_from.Goals as goal

pub returns-clause-field : goal.returns-clause-field
returns-clause-field g c =
    let words = words_of c.args.self.now in
    let size = length c.args.self.now.bytes.now in
    let start = 8 * c.min-byte.result in
    let place = c.args.from - start in
    let within : c.args.from + c.args.width ≤ 64 * (size / 8) = rw length-words_in at c.requires.within in
    let fits : place + c.args.width ≤ 64 = omega (arith, c.min-byte.ensures, c.requires.narrow) in
    let all : start + place ≡ c.args.from = omega (arith, c.min-byte.ensures) in
    c.low_bits.ensures ∙ ap (λ x. x / 2 ^ place % 2 ^ c.args.width) c.eight_bytes.ensures
    ∙ field_in_field words start 64 place c.args.width fits ∙ ap (λ n. field_at words n c.args.width) all
