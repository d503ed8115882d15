-- The line that a record makes below a header, and the numbers in it.
use Rattle.std.specs.Prelude.{◌==◌, length, map, if◌then◌else◌, Option, Some, None, Result, Ok, Err}
use Rattle.csv.specs.Records.{fields_of}
use Rattle.topo_base.specs.declared.refusal.Table.{Table}
use Rattle.topo_base.specs.declared.refusal.Column.{Column}
use Rattle.topo_base.specs.declared.refusal.Refusal.{Refusal}
use Rattle.topo_base.specs.declared.refusal.Refusal.TheVariants as refusal
use Rattle.plane_model.specs.Reading.{Line, field, ok_or_bad, ◌>>=◌}
use Rattle.topo_csv.specs.Texts.{text_of}
use Rattle.topo_csv.specs.declared.line.Line as read

-- a line with the texts of its fields
abbrev pub line_of : read.Line → Line
line_of line = record { header = fields_of line.header.now.names; row = line.row; fields = map text_of line.fields.now }

-- the table that a line stands in
abbrev pub table_of : read.Line → Table
table_of line = line.header.now.table

-- what was read of a field that has to be there
abbrev pub required_value : {X : Type 0} → Table → Line → Column → Option X → Result X Refusal
required_value t l c number = if length (field l c) == 0 then Err (refusal.EmptyNumber t l.row c) else ok_or_bad t l.row c number

-- what was read of a field, or nothing where it is empty
abbrev pub optional_value : {X : Type 0} → Table → Line → Column → Option X → Result (Option X) Refusal
optional_value t l c number = if length (field l c) == 0 then Ok None else required_value t l c number >>= λ x. Ok (Some x)
