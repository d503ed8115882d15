use Rattle.std.proofs.Common.{arith, ◌+◌, ◌≤◌, length, rules, ◌≡◌, ◌∙◌, true}
use Rattle.std.specs.Result.{is_ok}
use Rattle.csv.specs.Records.{fields_of}
use Rattle.plane_model.specs.Reading.{most_rows}
use Rattle.topo_csv.proofs.Rows.{at_success, behind_none, one_longer, passed_on, read_all, read_one, refused_one, row_within, texts_given}
use Rattle.topo_csv.proofs.table.read_lines.Goals as goal

pub loop-record-init : goal.loop-record-init
loop-record-init g c =
    let none = c.empty-rows.ensures in
    record {
      small = rw none (omega arith);
      reading = c.requires.reading;
      ahead = rw none (behind_none _);
    }

pub returns-in_err-read_row-clause-refused : goal.returns-in_err-read_row-clause-refused
returns-in_err-read_row-clause-refused g c =
    let gives = texts_given _ _ _ _ _ (rw c.if-branch.true at c.in_ok-next_record.ensures.gives) c.deref.ensures.value c.in_ok-fields.ensures in
    let refused = refused_one g.L.Row.TableRow.of_table g.L.Row.TableRow.read_line (fields_of c.args.header.now.names) _ _ _ _ (g.L.RowList.listed c.loop-record.rows) _ gives (rw c.len.ensures at c.in_err-read_row.ensures) in
    passed_on _ _ _ c.from_residual-in_err-read_row.ensures.1 (c.loop-record.invariant.ahead ∙ refused)

pub loop-record-preserved : goal.loop-record-preserved
loop-record-preserved g c =
    let gives = texts_given _ _ _ _ _ (rw c.if-branch.true at c.in_ok-next_record.ensures.gives) c.deref.ensures.value c.in_ok-fields.ensures in
    let good : is_ok c.push.result ≡ true = search rules in
    let items = at_success c.push.result good c.push.ensures in
    let len = one_longer _ _ _ items in
    let row = rw c.len.ensures at c.in_ok-read_row.ensures in
    let read = read_one g.L.Row.TableRow.of_table g.L.Row.TableRow.read_line (fields_of c.args.header.now.names) _ _ _ _ (g.L.RowList.listed c.loop-record.rows) _ gives row in
    record {
      small = let least : length (g.L.RowList.listed c.loop-record.rows) + 1 ≤ most_rows g.L.Row.TableRow.of_table = row_within _ g.L.Row.TableRow.read_line (fields_of c.args.header.now.names) _ _ _ row in rw len least;
      reading = c.in_ok-next_record.ensures.reading c.if-branch.true;
      ahead = rw (len, items) (c.loop-record.invariant.ahead ∙ read);
    }

pub returns-clause-rows : goal.returns-clause-rows
returns-clause-rows g c =
    let gives = rw c.if-branch.false at c.in_ok-next_record.ensures.gives in
    c.loop-record.invariant.ahead ∙ read_all _ _ _ _ _ _ gives.0
