use Rattle.std.proofs.Common.{refl}
use Rattle.csv.specs.Reading.{records_from, strip_bom}
use Rattle.csv.specs.Machine.{next_record}
use Rattle.topo_base.specs.Spelling.{digits_behind}
use Rattle.plane_model.specs.Reading.{rows_from}
use Rattle.plane_model.proofs.worked.rows_of_texts.Goals as goal

pub returns-clause-triangle : goal.returns-clause-triangle
unfolding records_from strip_bom next_record digits_behind rows_from
returns-clause-triangle c = refl

pub returns-clause-other_columns : goal.returns-clause-other_columns
unfolding records_from strip_bom next_record digits_behind rows_from
returns-clause-other_columns c = refl

pub returns-clause-nodes : goal.returns-clause-nodes
unfolding records_from strip_bom next_record digits_behind rows_from
returns-clause-nodes c = refl

pub returns-clause-no_header : goal.returns-clause-no_header
unfolding records_from strip_bom next_record digits_behind rows_from
returns-clause-no_header c = refl

pub returns-clause-one_column : goal.returns-clause-one_column
unfolding records_from strip_bom next_record digits_behind rows_from
returns-clause-one_column c = refl

pub returns-clause-no_containing_face : goal.returns-clause-no_containing_face
unfolding records_from strip_bom next_record digits_behind rows_from
returns-clause-no_containing_face c = refl

pub returns-clause-column_twice : goal.returns-clause-column_twice
unfolding records_from strip_bom next_record digits_behind rows_from
returns-clause-column_twice c = refl

pub returns-clause-row_shape : goal.returns-clause-row_shape
unfolding records_from strip_bom next_record digits_behind rows_from
returns-clause-row_shape c = refl

pub returns-clause-too_great : goal.returns-clause-too_great
unfolding records_from strip_bom next_record digits_behind rows_from
returns-clause-too_great c = refl

pub returns-clause-beyond_32_bits : goal.returns-clause-beyond_32_bits
unfolding records_from strip_bom next_record digits_behind rows_from
returns-clause-beyond_32_bits c = refl

pub returns-clause-empty_end : goal.returns-clause-empty_end
unfolding records_from strip_bom next_record digits_behind rows_from
returns-clause-empty_end c = refl

pub returns-clause-leading_zero : goal.returns-clause-leading_zero
unfolding records_from strip_bom next_record digits_behind rows_from
returns-clause-leading_zero c = refl

pub returns-clause-zero_next : goal.returns-clause-zero_next
unfolding records_from strip_bom next_record digits_behind rows_from
returns-clause-zero_next c = refl
