-- The map that is served, and what bounds on words are measured by.
use Rattle.std.specs.Prelude.{ℕ, ◌+◌, ◌*◌, length}
use Rattle.bit_words.specs.Digits.{digits}
use Rattle.plane_model.specs.PlaneMap.{PlaneMap, map_of}
use Rattle.plane_model.specs.Consistent.{size}
use Rattle.file_laws.specs.Contents.{Contents}
use Rattle.file_laws.specs.MapOfFile.{rows_of_contents}
use Rattle.pemb_file.specs.Served.{contents_of_view}
use Rattle.pemb_file.specs.declared.served.Served.{Served}

-- the map of some contents
abbrev pub map_with : Contents → PlaneMap
map_with c = map_of (rows_of_contents c)

-- the map that a served file stands for
abbrev pub served_map : Served → PlaneMap
served_map s = map_with (contents_of_view s)

-- how many words one question may read, by what is gone round for it and what is listed
abbrev pub most_words : PlaneMap → ℕ → ℕ → ℕ
most_words m walked listed = 256 * digits (size m) * (walked + listed + 1) + 128 * digits (size m)

-- how many words looking up the ids of one question ahead may read
abbrev pub words_ahead : PlaneMap → ℕ
words_ahead m = 128 * digits (size m)

-- how many binary digits the size of the map has, by the lists of its contents
abbrev pub line_digits : Contents → ℕ
line_digits c = digits (2 * length c.edges + length c.isolated + 2 * length c.regions + 2)

-- the same bound by the contents
abbrev pub line_words : Contents → ℕ → ℕ → ℕ
line_words c walked listed = 256 * line_digits c * (walked + listed + 1) + 128 * line_digits c
