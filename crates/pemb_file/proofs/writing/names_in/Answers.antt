use Rattle.std.proofs.Common.{length, ◌≡◌, ◌+◌, ◌^◌, arith, subst}
use Rattle.bit_words.specs.Digits.{digits}
use Rattle.id_names.specs.Names.{AreDistinctIds}
use Rattle.file_laws.specs.Layout.{id_bits}
use Rattle.pemb_file.specs.Form.{number_of}
use Rattle.file_laws.proofs.Rooms.{bits_are, bits_some}
use Rattle.pemb_file.proofs.writing.names_in.Goals as goal

pub make-requires-clause-names : goal.make-requires-clause-names
make-requires-clause-names c =
    let a = bits_are (number_of c.args.form) (length c.args.ids.now) c.requires.few in
    let w = c.low_width.ensures.width in
    let e : id_bits (number_of c.args.form) ≡ digits (length c.args.ids.now) + c.low_width.result = omega (arith, a, w) in
    subst (λ bits. AreDistinctIds (2 ^ bits) c.args.ids.now) e c.requires.names

pub make-requires-clause-narrow : goal.make-requires-clause-narrow
make-requires-clause-narrow c =
    let a = bits_are (number_of c.args.form) (length c.args.ids.now) c.requires.few in
    let b = (bits_some (number_of c.args.form)).1 in
    let w = c.low_width.ensures.width in
    omega (arith, a, b, w)
