-- What an index says.
use Rattle.std.specs.Prelude.{◌≡◌, ℕ, List, length, Option}
use Rattle.plane_model.specs.Faults.{least_twice}
use Rattle.id_index.specs.declared.index.Form.{Form}
use Rattle.id_index.specs.declared.index.Form.TheVariants as form
use Rattle.id_index.specs.declared.index.IdIndex.{IdIndex}
use Rattle.id_index.specs.Rows.{first_row}
use Rattle.id_index.specs.Dense.{row_at}
use Rattle.id_index.specs.Entries.{row_among}

abbrev pub row_by : Form → ℕ → Option ℕ
row_by (form.Dense rows) id = row_at rows.slots.items id
row_by (form.Sparse rows) id = row_among rows.entries.items id

-- the row that an index has for an id
abbrev pub row_in : IdIndex → ℕ → Option ℕ
row_in index id = row_by index.form id

abbrev pub places_by : Form → ℕ
places_by (form.Dense rows) = length rows.slots.items
places_by (form.Sparse rows) = length rows.entries.items

-- how many slots or entries an index takes
abbrev pub places_in : IdIndex → ℕ
places_in index = places_by index.form

-- the index of these ids: of each its first row, and the least that stands twice
pub record IsIndex (ids : List ℕ) (index : IdIndex) : Type 0 where
  pub rows : (id : ℕ) → row_in index id ≡ first_row ids id
  pub repeated : index.repeated ≡ least_twice ids
