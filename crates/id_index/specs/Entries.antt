-- Ids with their rows.
use Rattle.std.specs.Prelude.{ℕ, ◌==◌, List, map, find, Option, option_map}
use Rattle.std.specs.List.{enumerate_from}
use Rattle.id_index.specs.declared.sparse.Entry.{Entry}

-- a row with its id
abbrev pub entry : ℕ × ℕ → Entry
entry p = record { id = p.1; row = p.0 }

-- the ids with their rows, in file order
abbrev pub numbered : List ℕ → List Entry
numbered ids = map entry (enumerate_from 0 ids)

abbrev pub ids_of : List Entry → List ℕ
ids_of entries = map (λ e. e.id) entries

-- the row of the first entry that has an id
abbrev pub row_among : List Entry → ℕ → Option ℕ
row_among entries id = option_map (λ e. e.row) (find (λ e. e.id == id) entries)
