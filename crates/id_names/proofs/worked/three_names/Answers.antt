use Rattle.std.proofs.Common.{refl}
use Rattle.bit_words.specs.Lists.{tabulate, first_some}
use Rattle.bit_words.specs.Bits.{is_set, word_bits, bit_of, bits_in, stream, field_at, fields_in, rank, select}
use Rattle.bit_words.specs.Digits.{digits}
use Rattle.rank_select.specs.Counts.{counts_of}
use Rattle.id_names.specs.Names.{number_of}
use Rattle.id_names.specs.Rising.{high_part, rising_at}
use Rattle.id_names.specs.Inverse.{walk}
use Rattle.id_names.specs.RisingNames.{ids_by_number}
use Rattle.id_names.specs.Faults.{name_fault}
use Rattle.id_names.proofs.worked.three_names.Goals as goal

pub returns-clause-ids : goal.returns-clause-ids
unfolding tabulate is_set word_bits bit_of bits_in stream field_at fields_in rank select digits counts_of number_of high_part rising_at walk ids_by_number first_some name_fault
returns-clause-ids c = refl

pub returns-clause-inverse : goal.returns-clause-inverse
unfolding tabulate is_set word_bits bit_of bits_in stream field_at fields_in rank select digits counts_of number_of high_part rising_at walk ids_by_number first_some name_fault
returns-clause-inverse c = refl

pub returns-clause-right : goal.returns-clause-right
unfolding tabulate is_set word_bits bit_of bits_in stream field_at fields_in rank select digits counts_of number_of high_part rising_at walk ids_by_number first_some name_fault
returns-clause-right c = refl

pub returns-clause-wide : goal.returns-clause-wide
unfolding tabulate is_set word_bits bit_of bits_in stream field_at fields_in rank select digits counts_of number_of high_part rising_at walk ids_by_number first_some name_fault
returns-clause-wide c = refl

pub returns-clause-wide_right : goal.returns-clause-wide_right
unfolding tabulate is_set word_bits bit_of bits_in stream field_at fields_in rank select digits counts_of number_of high_part rising_at walk ids_by_number first_some name_fault
returns-clause-wide_right c = refl
