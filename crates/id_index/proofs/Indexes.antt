-- What an index says of the rows of ids.
use Rattle.std.proofs.Common.{◌≡◌, ℕ, true, false, List, sym, ap, ◌∙◌, Some, None}
use Rattle.std.specs.Prelude.{is_some, slice_get}
use Rattle.plane_model.specs.Sets.{has}
use Rattle.id_index.specs.declared.index.IdIndex.{IdIndex}
use Rattle.id_index.specs.Index.{IsIndex, row_in}
use Rattle.id_index.proofs.FirstRows.{first_row-here, first_row-known}

pub index-has : (ids : List ℕ) (index : IdIndex) (id : ℕ) → IsIndex ids index → is_some (row_in index id) ≡ has ids id
index-has ids index id is = ap is_some (is.rows id) ∙ first_row-known ids id

pub index_there : (ids : List ℕ) (index : IdIndex) (id row : ℕ) → IsIndex ids index → row_in index id ≡ Some row → slice_get ids row ≡ Some id
index_there ids index id row is e = first_row-here ids id row (sym (is.rows id) ∙ e)

pub index_some : (ids : List ℕ) (index : IdIndex) (id row : ℕ) → IsIndex ids index → row_in index id ≡ Some row → has ids id ≡ true
index_some ids index id row is e = sym (index-has ids index id is) ∙ ap is_some e

pub index_missing : (ids : List ℕ) (index : IdIndex) (id : ℕ) → IsIndex ids index → row_in index id ≡ None → has ids id ≡ false
index_missing ids index id is e = sym (index-has ids index id is) ∙ ap is_some e
