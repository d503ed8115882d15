-- The parentheses of a view.
use Rattle.std.specs.Prelude.{Bool, List}
use Rattle.min_max_tree.specs.MinMaxView.{searched}
use Rattle.parens.specs.declared.view.ParenView.{ParenView}

-- the parentheses of a view
abbrev pub parens_of : ParenView → List Bool
parens_of v = searched v.tree
