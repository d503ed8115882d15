-- How many words counts ask for that are as great as a word holds.
use Rattle.std.proofs.Common.{◌≡◌, refl, sym, arith}
use Rattle.bit_words.specs.Digits.{digits}
use Rattle.min_max_tree.specs.Tree.{size_at, span_at, sizes_from, tree_size}
use Rattle.id_names.proofs.DigitBounds.{digits-is}
use Rattle.file_laws.specs.Layout.{sections, section_words, total_words, file_words}
use Rattle.file_laws.specs.Worked.{counts_with}

small_digits : (digits 0 ≡ 0) × (digits 3 ≡ 2)
unfolding digits
small_digits = (refl, refl)

many_digits : digits 18446744073709551615 ≡ 64
many_digits = sym (digits-is 18446744073709551615 64 (omega arith) (omega arith))

many_face_digits : digits 18446744073709551613 ≡ 64
many_face_digits = sym (digits-is 18446744073709551613 64 (omega arith) (omega arith))

pub wide_words : file_words (counts_with 1 18446744073709551615 2 1 0 0) ≡ 50188114247416807456
unfolding file_words total_words sections section_words tree_size sizes_from size_at span_at
wide_words = rw (small_digits.0, small_digits.1, many_digits, many_face_digits) refl
