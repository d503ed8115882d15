use Rattle.std.proofs.Common.{◌≡◌, ◌≤◌, ◌+◌, ◌-◌, length}
use Rattle.csv.specs.Records.{fields_of}
use Rattle.plane_model.specs.Reading.{most_rows, rows_from}
use Rattle.topo_csv.specs.Left.{IsReading, left_in}
use Rattle.topo_csv.proofs.Rows.{behind}
use Rattle.topo_csv.proofs.table.read_lines.Given as goal

abbrev pub invariant-loop-record : goal.invariant-loop-record
invariant-loop-record g l = record {
  small : length (g.L.RowList.listed l.rows) ≤ most_rows g.L.Row.TableRow.of_table;
  reading : IsReading l.reader;
  ahead : rows_from g.L.Row.TableRow.of_table g.L.Row.TableRow.read_line (fields_of l.header.names) 1 (left_in l.initial.reader) ≡ behind (g.L.RowList.listed l.rows) (rows_from g.L.Row.TableRow.of_table g.L.Row.TableRow.read_line (fields_of l.header.names) (length (g.L.RowList.listed l.rows) + 1) (left_in l.reader));
}

abbrev pub decreases-loop-record : goal.decreases-loop-record
decreases-loop-record g l = most_rows g.L.Row.TableRow.of_table + 1 - length (g.L.RowList.listed l.rows)
