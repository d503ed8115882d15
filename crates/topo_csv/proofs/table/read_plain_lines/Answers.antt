use Rattle.std.proofs.Common.{arith, length, rules, ◌+◌, ◌≡◌, ◌≤◌, ◌∙◌, true}
use Rattle.std.specs.Result.{is_ok}
use Rattle.csv.specs.Records.{fields_of}
use Rattle.plane_model.specs.Reading.{most_rows}
use Rattle.topo_csv.proofs.Rows.{at_success, behind_none, one_longer, passed_on, read_all, read_one, refused_one, row_within, texts_behind}
use Rattle.topo_csv.proofs.table.read_plain_lines.Goals as goal

pub loop-fields-init : goal.loop-fields-init
loop-fields-init g c =
    let none = c.empty-rows.ensures in
    record {
      small = rw none (omega arith);
      plain = c.requires.plain;
      ahead = rw none (behind_none _);
    }

pub returns-in_err-read_row-clause-refused : goal.returns-in_err-read_row-clause-refused
returns-in_err-read_row-clause-refused g c =
    let gives = texts_behind _ _ _ _ (rw c.in-Some.is at c.in_ok-behind.ensures.gives) c.deref.ensures.value in
    let refused = refused_one g.L.Row.TableRow.of_table g.L.Row.TableRow.read_line (fields_of c.args.header.now.names) _ _ _ _ (g.L.RowList.listed c.loop-fields.rows) _ gives (rw c.len.ensures at c.in_err-read_row.ensures) in
    passed_on _ _ _ c.from_residual-in_err-read_row.ensures.1 (c.loop-fields.invariant.ahead ∙ refused)

pub loop-fields-preserved : goal.loop-fields-preserved
loop-fields-preserved g c =
    let gives = texts_behind _ _ _ _ (rw c.in-Some.is at c.in_ok-behind.ensures.gives) c.deref.ensures.value in
    let good : is_ok c.push.result ≡ true = search rules in
    let items = at_success c.push.result good c.push.ensures in
    let len = one_longer _ _ _ items in
    let row = rw c.len.ensures at c.in_ok-read_row.ensures in
    let read = read_one g.L.Row.TableRow.of_table g.L.Row.TableRow.read_line (fields_of c.args.header.now.names) _ _ _ _ (g.L.RowList.listed c.loop-fields.rows) _ gives row in
    record {
      small = let least : length (g.L.RowList.listed c.loop-fields.rows) + 1 ≤ most_rows g.L.Row.TableRow.of_table = row_within _ g.L.Row.TableRow.read_line (fields_of c.args.header.now.names) _ _ _ row in rw len least;
      plain = rw c.in-Some.is at c.in_ok-behind.ensures.plain;
      ahead = rw (len, items) (c.loop-fields.invariant.ahead ∙ read);
    }

pub returns-clause-rows : goal.returns-clause-rows
returns-clause-rows g c =
    let gives = rw c.in_default.is at c.in_ok-behind.ensures.gives in
    c.loop-fields.invariant.ahead ∙ read_all _ _ _ _ _ _ gives.0
