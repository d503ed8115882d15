-- The names that a view stands for.
use Rattle.std.specs.Prelude.{ℕ, List}
use Rattle.id_names.specs.RisingNames.{RisingNames, ids_by_number}
use Rattle.id_names.specs.PartViews.{names_over}
use Rattle.id_names.specs.declared.view.NamesView.{NamesView}

-- the names that a view stands for
abbrev pub names_in : NamesView → RisingNames
names_in v = names_over v.ids v.inverse

-- the ids that a view stands for, by number
abbrev pub ids_of : NamesView → List ℕ
ids_of v = ids_by_number (names_in v)
