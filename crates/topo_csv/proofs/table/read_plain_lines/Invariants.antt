use Rattle.std.proofs.Common.{◌≡◌, ◌≤◌, ◌+◌, ◌-◌, length, IsTrue}
use Rattle.csv.specs.Records.{fields_of}
use Rattle.csv.specs.Reading.{default_config, records}
use Rattle.plane_model.specs.Reading.{most_rows, rows_from}
use Rattle.topo_csv.specs.Plain.{has_no_quote}
use Rattle.topo_csv.proofs.Rows.{behind}
use Rattle.topo_csv.proofs.table.read_plain_lines.Given as goal

abbrev pub invariant-loop-fields : goal.invariant-loop-fields
invariant-loop-fields g l = record {
  small : length (g.L.RowList.listed l.rows) ≤ most_rows g.L.Row.TableRow.of_table;
  plain : IsTrue (has_no_quote l.left);
  ahead : rows_from g.L.Row.TableRow.of_table g.L.Row.TableRow.read_line (fields_of l.header.names) 1 (records default_config l.bytes) ≡ behind (g.L.RowList.listed l.rows) (rows_from g.L.Row.TableRow.of_table g.L.Row.TableRow.read_line (fields_of l.header.names) (length (g.L.RowList.listed l.rows) + 1) (records default_config l.left));
}

abbrev pub decreases-loop-fields : goal.decreases-loop-fields
decreases-loop-fields g l = most_rows g.L.Row.TableRow.of_table + 1 - length (g.L.RowList.listed l.rows)
