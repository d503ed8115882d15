-- What was read of the texts of a map describes the map, and the texts tell the map.
use Rattle.std.proofs.Common.{◌≡◌, true, sym, ap, ◌∙◌, subst, None}
use Rattle.std.specs.Prelude.{Result, Ok}
use Rattle.topo_base.specs.declared.refusal.Table.{Table}
use Rattle.topo_base.specs.declared.refusal.Refusal.{Refusal}
use Rattle.plane_model.specs.Rows.{Rows}
use Rattle.plane_model.specs.PlaneMap.{map_of, has_map}
use Rattle.plane_model.specs.InRange.{is_in_range}
use Rattle.plane_model.specs.Consistent.{is_consistent}
use Rattle.plane_model.specs.Faults.{first_fault}
use Rattle.plane_model.specs.Texts.{table_text}
use Rattle.plane_model.proofs.AllFaults.{None_from, none-first_fault}
use Rattle.table_text.specs.RowsOfMap.{rows_of_map}
use Rattle.table_text.specs.TextsRead.{ReadsBack, tables_read}
use Rattle.table_text.proofs.RowsBack.{distinct_parts, within_parts, same_map, rows_same, in_range_again, consistent_again, consistent_distinct}
use Rattle.table_text.proofs.WholeTexts.{all_read}

same_ok : (x y : Rows) → ◌≡◌ {A = Result Rows Refusal} (Ok x) (Ok y) → x ≡ y
same_ok x y e = cc

pub whole_read : (t : Rows) → is_in_range t ≡ true → has_map t ≡ true → tables_read (table_text (map_of t)) ≡ Ok (rows_of_map (map_of t))
whole_read t range h = all_read t (distinct_parts t h) (within_parts t range)

pub reads_back : (t : Rows) → is_in_range t ≡ true → has_map t ≡ true → ReadsBack t (rows_of_map (map_of t))
reads_back t range h = record { reads = whole_read t range h; same = rows_same t h; in_range = in_range_again t range h; consistent = consistent_again t h }

pub reads_only : (t back : Rows) → is_in_range t ≡ true → has_map t ≡ true → tables_read (table_text (map_of t)) ≡ Ok back → ReadsBack t back
reads_only t back range h e = subst (ReadsBack t) (same_ok (rows_of_map (map_of t)) back (sym (whole_read t range h) ∙ e)) (reads_back t range h)

pub texts_again : (t back : Rows) (which : Table) → is_in_range t ≡ true → has_map t ≡ true → tables_read (table_text (map_of t)) ≡ Ok back → table_text (map_of back) which ≡ table_text (map_of t) which
texts_again t back which range h e = ap (λ m. table_text m which) (reads_only t back range h e).same.2

pub one_map : (t u : Rows) → is_in_range t ≡ true → is_in_range u ≡ true → has_map t ≡ true → has_map u ≡ true
    → ((which : Table) → table_text (map_of t) which ≡ table_text (map_of u) which) → map_of t ≡ map_of u
one_map t u t_range u_range t_map u_map same =
    let texts : tables_read (table_text (map_of t)) ≡ tables_read (table_text (map_of u)) = λ i. tables_read (λ which. same which i) in
    let rows = same_ok (rows_of_map (map_of t)) (rows_of_map (map_of u)) (sym (whole_read t t_range t_map) ∙ texts ∙ whole_read u u_range u_map) in
    sym (same_map t (distinct_parts t t_map)) ∙ ap map_of rows ∙ same_map u (distinct_parts u u_map)

pub rows_accepted : (t : Rows) → is_in_range t ≡ true → is_consistent t ≡ true → first_fault (rows_of_map (map_of t)) ≡ None
rows_accepted t range k =
    let h = consistent_distinct t k in
    None_from _ _ (none-first_fault (rows_of_map (map_of t)) (in_range_again t range h)) (consistent_again t h ∙ k)
