use Rattle.topo_csv.proofs.Cutting.{no_quote_found, plain_behind_mark}
use Rattle.topo_csv.proofs.Rows.{passed_on, rows_refused}
use Rattle.topo_csv.proofs.table.read_rows.Goals as goal

pub returns-in_err-header-clause-refused : goal.returns-in_err-header-clause-refused
returns-in_err-header-clause-refused g c =
    let gives = rw c.records-reader.ensures.left at c.in_ok-next_record.ensures.gives in
    let refused = rw c.table.ensures at c.in_err-header.ensures.refused in
    passed_on _ _ _ c.from_residual-in_err-header.ensures.1 (rows_refused g.L.Row.TableRow.of_table g.L.Row.TableRow.read_line _ _ _ _ _ gives refused)

pub read_plain_rows-requires : goal.read_plain_rows-requires
read_plain_rows-requires g c =
    rw c.without_mark.ensures (plain_behind_mark c.args.bytes.now (no_quote_found c.args.bytes.now c.memchr.result c.memchr.ensures c.if-is_none.ensures))
