use Rattle.std.proofs.Common.{◌≡◌, ◌+◌, ◌-◌, ◌<◌, ◌++◌, [], ℕ, List, arith, ap, sym, ◌∙◌, refl, rules}
use Rattle.plane_model.specs.Texts.{table_text}
use Rattle.pemb_file.specs.Served.{contents_of_view}
use Rattle.navigate.specs.Bound.{served_map}
use Rattle.navigate.proofs.Facts.{w}
use Rattle.table_dump.specs.Lines.{line_at, lines_from, row_count}
use Rattle.table_dump.specs.Prices.{line_price}
use Rattle.table_dump.proofs.ByPlace.{lines_more, text_by_place}
use Rattle.table_dump.proofs.Putting.{begun, counts_failed, counts_more, counts_same, ended_err, ended_ok, gathered_behind, not_begun, on_failure, places_read, stopped, went_on}
use Rattle.table_dump.proofs.Sums.{rows_paid}
use Rattle.table_dump.proofs.table.write_lines.Goals as goal

pub returns-in_err-start-clause-part : goal.returns-in_err-start-clause-part
returns-in_err-start-clause-part g c =
    on_failure _ _ c.from_residual.ensures.1 (not_begun c.args.name.now (table_text (served_map c.args.served) c.args.table) _ _ c.in_err-start.ensures.left c.in_err-start.ensures.others)

pub returns-in_err-start-clause-counted : goal.returns-in_err-start-clause-counted
returns-in_err-start-clause-counted g c = counts_failed _ _ _ _ _ c.from_residual.ensures.1 c.in_err-start.ensures.counted

pub returns-in_err-gather-clause-part : goal.returns-in_err-gather-clause-part
returns-in_err-gather-clause-part g c =
    let m = contents_of_view c.args.served in
    let whole = table_text (served_map c.args.served) c.args.table in
    let left = lines_from m c.args.table 0 (row_count m c.args.table) in
    let split = text_by_place m (w m c.args.served.whole) c.args.table ∙ ap (λ (z : List ℕ). z ++ left) (sym c.header.ensures.header) in
    on_failure _ _ c.from_residual-in_err-gather.ensures.1
    (stopped _ c.args.name.now whole whole left c.header.result.now _ _ _ _ _ _ _ split (begun c.args.name.now whole _ _ _ c.requires.empty c.in_ok-start.ensures.started c.in_ok-start.ensures.others) c.in_err-gather.ensures.writes)

pub returns-in_err-gather-clause-counted : goal.returns-in_err-gather-clause-counted
returns-in_err-gather-clause-counted g c = counts_more _ _ _ _ _ c.in_ok-start.ensures.counted (counts_failed _ _ _ _ _ c.from_residual-in_err-gather.ensures.1 c.in_err-gather.ensures.writes.counted)

pub loop-place-init : goal.loop-place-init
loop-place-init g c =
    let m = contents_of_view c.args.served in
    let whole = table_text (served_map c.args.served) c.args.table in
    let n = row_count m c.args.table in
    let zero : n - 0 ≡ n = omega arith in
    let split = text_by_place m (w m c.args.served.whole) c.args.table ∙ ap (λ (z : List ℕ). z ++ lines_from m c.args.table 0 n) (sym c.header.ensures.header) ∙ ap (λ k. c.header.result.now ++ lines_from m c.args.table 0 k) (sym zero) in
    record {
      way =
          went_on _ c.args.name.now whole whole (lines_from m c.args.table 0 (n - 0)) c.header.result.now _ _ _ _ _ _ _ split
          (begun c.args.name.now whole _ _ _ c.requires.empty c.in_ok-start.ensures.started c.in_ok-start.ensures.others) c.in_ok-gather.ensures.writes;
      held = c.in_ok-gather.ensures.writes.held;
      faults = c.in_ok-gather.ensures.no_fault ∙ c.in_ok-start.ensures.no_fault;
      misses = c.in_ok-gather.ensures.no_miss ∙ c.in_ok-start.ensures.no_miss;
      write_faults = c.in_ok-gather.ensures.writes.counted.stays ∙ c.in_ok-start.ensures.counted.stays;
      least = search rules;
      paid = search rules;
    }

pub loop-place-preserved : goal.loop-place-preserved
loop-place-preserved g c =
    let m = contents_of_view c.args.served in
    let t = c.args.table in
    let whole = table_text (served_map c.args.served) t in
    let n = row_count m t in
    let i = c.loop-place.place in
    let kept = c.loop-place.invariant in
    let l : i < n = omega (arith, c.places-count.ensures.count) in
    let room = c.in_ok-make_room.ensures in
    let writes = gathered_behind {Y = ℕ} {F = ℕ} _ 0 c.args.name.now _ _ _ _ _ (line_at m t i) c.put_line.ensures.line room.writes in
    record {
      way = went_on _ c.args.name.now whole (lines_from m t i (n - i)) (lines_from m t (i + 1) (n - (i + 1))) (line_at m t i) _ _ _ _ _ _ _ (lines_more m t i n l) kept.way writes;
      held = room.writes.held;
      faults = room.no_fault ∙ kept.faults;
      misses = room.no_miss ∙ kept.misses;
      write_faults = room.writes.counted.stays ∙ kept.write_faults;
      least = omega (arith, kept.least, c.put_line.ensures.some_steps);
      paid = omega (arith, kept.paid, c.put_line.ensures.cost);
    }

pub returns-in_err-make_room-clause-part : goal.returns-in_err-make_room-clause-part
returns-in_err-make_room-clause-part g c =
    let m = contents_of_view c.args.served in
    let t = c.args.table in
    let i = c.loop-place.place in
    let left = lines_from m t i (row_count m t - i) in
    on_failure _ _ c.from_residual-in_err-make_room.ensures.1
    (stopped _ c.args.name.now (table_text (served_map c.args.served) t) left left [] _ _ _ _ _ _ _ refl c.loop-place.invariant.way c.in_err-make_room.ensures.writes)

pub returns-in_err-make_room-clause-counted : goal.returns-in_err-make_room-clause-counted
returns-in_err-make_room-clause-counted g c =
    counts_more {Y = ℕ} {F = ℕ} 0 _ _ _ _ (counts_same 0 _ _ c.loop-place.invariant.write_faults) (counts_failed _ _ _ _ _ c.from_residual-in_err-make_room.ensures.1 c.in_err-make_room.ensures.writes.counted)

pub returns-in_err-make_room-clause-paid : goal.returns-in_err-make_room-clause-paid
returns-in_err-make_room-clause-paid g c =
    rows_paid c.loop-place.place (row_count (contents_of_view c.args.served) c.args.table) (line_price (contents_of_view c.args.served) c.args.table) _ _ (omega (arith, c.places-count.ensures.count)) c.loop-place.invariant.paid

pub returns-clause-written : goal.returns-clause-written
returns-clause-written g c =
    let m = contents_of_view c.args.served in
    let t = c.args.table in
    let n = row_count m t in
    let i = c.loop-place.place in
    let zero : n - i ≡ 0 = omega (arith, c.places-count.ensures.count) in
    let none = ap (lines_from m t i) zero in
    ended_ok _ c.args.name.now (table_text (served_map c.args.served) t) (lines_from m t i (n - i)) _ _ _ _ _ _ _ none c.loop-place.invariant.way c.put_out.ensures.writes c.put_out.ensures.empty

pub returns-clause-part : goal.returns-clause-part
returns-clause-part g c =
    let m = contents_of_view c.args.served in
    let t = c.args.table in
    let n = row_count m t in
    let i = c.loop-place.place in
    ended_err _ c.args.name.now (table_text (served_map c.args.served) t) (lines_from m t i (n - i)) _ _ _ _ _ _ _ c.loop-place.invariant.way c.put_out.ensures.writes

pub returns-clause-counted : goal.returns-clause-counted
returns-clause-counted g c = counts_more {Y = ℕ} {F = ℕ} 0 _ _ _ _ (counts_same 0 _ _ c.loop-place.invariant.write_faults) c.put_out.ensures.writes.counted

pub returns-clause-least : goal.returns-clause-least
returns-clause-least g c =
    places_read c.put_out.result _ c.loop-place.place (row_count (contents_of_view c.args.served) c.args.table) _ c.loop-place.invariant.least (omega (arith, c.places-count.ensures.count))

pub returns-clause-paid : goal.returns-clause-paid
returns-clause-paid g c =
    rows_paid c.loop-place.place (row_count (contents_of_view c.args.served) c.args.table) (line_price (contents_of_view c.args.served) c.args.table) _ _ (omega (arith, c.places-count.ensures.count)) c.loop-place.invariant.paid
