-- The text of a field.
use Rattle.std.specs.Prelude.{ℕ, List}
use Rattle.topo_csv.specs.declared.field.Field.{Field}

-- the bytes of a field
abbrev pub text_of : Field → List ℕ
text_of f = f.text.now
