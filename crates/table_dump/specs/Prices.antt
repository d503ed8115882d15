-- How many words a dump reads at most.
use Rattle.std.specs.Prelude.{ℕ, ◌+◌, ◌*◌}
use Rattle.topo_base.specs.declared.refusal.Table.{Table}
use Rattle.topo_base.specs.declared.refusal.Table.TheVariants as table
use Rattle.bit_words.specs.Digits.{digits}
use Rattle.plane_model.specs.PlaneMap.{PlaneMap}
use Rattle.plane_model.specs.Consistent.{size}
use Rattle.file_laws.specs.Contents.{Contents}
use Rattle.navigate.specs.Bound.{line_digits}

-- what is read ahead for a row, and what its line costs then
abbrev pub ahead_price : Contents → Table → ℕ
ahead_price c table.Node = 2
ahead_price c table.Edge = 9 * line_digits c + 78
ahead_price c table.Face = 0
ahead_price c table.Region = 0
ahead_price c table.Member = 2

abbrev pub line_price : Contents → Table → ℕ
line_price c table.Node = 6 * line_digits c + 40
line_price c table.Edge = 3 * line_digits c + 18
line_price c table.Face = 3 * line_digits c + 18
line_price c table.Region = 17 * line_digits c + 121
line_price c table.Member = 6 * line_digits c + 42

abbrev pub row_price : Contents → Table → ℕ
row_price c t = ahead_price c t + line_price c t

-- what all tables of a map cost
abbrev pub most_dump_words : PlaneMap → ℕ
most_dump_words m = 1024 * digits (size m) * (size m + 2)
