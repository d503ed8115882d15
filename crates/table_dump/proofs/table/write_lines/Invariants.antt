use Rattle.std.proofs.Common.{◌≡◌, ◌≤◌, ◌+◌, ◌-◌, ◌*◌}
use Rattle.ports.specs.Outside.{IsHeld, WhereTold}
use Rattle.plane_model.specs.Texts.{table_text}
use Rattle.pemb_file.specs.Served.{contents_of_view}
use Rattle.navigate.specs.Bound.{served_map}
use Rattle.table_dump.specs.Lines.{lines_from, row_count}
use Rattle.table_dump.specs.Prices.{line_price}
use Rattle.table_dump.proofs.Putting.{IsOnWay}
use Rattle.table_dump.proofs.table.write_lines.Given as goal

abbrev pub invariant-loop-place : goal.invariant-loop-place
invariant-loop-place g l =
    record {
      way : WhereTold (IsOnWay l.name (table_text (served_map l.served) l.table) (lines_from (contents_of_view l.served) l.table l.place (row_count (contents_of_view l.served) l.table - l.place)) l.text.items) (g.H.Shelf.files l.fn.shelf) (g.H.Shelf.files l.shelf);
      held : IsHeld (g.H.Shelf.files l.shelf) l.name;
      faults : g.H.Shelf.faults l.shelf ≡ g.H.Shelf.faults l.fn.shelf;
      misses : g.H.Shelf.misses l.shelf ≡ g.H.Shelf.misses l.fn.shelf;
      write_faults : g.H.Shelf.write_faults l.shelf ≡ g.H.Shelf.write_faults l.fn.shelf;
      least : l.fn.steps + l.place ≤ l.steps;
      paid : l.steps ≤ l.fn.steps + l.place * line_price (contents_of_view l.served) l.table;
    }
