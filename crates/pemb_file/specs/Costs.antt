-- How many words the checks of a file read at most.
use Rattle.std.specs.Prelude.{ℕ, ◌+◌, ◌*◌}
use Rattle.bit_words.specs.Digits.{digits}
use Rattle.file_laws.specs.Layout.{HeaderCounts, node_count, face_count}

-- for c names
abbrev pub names_cost : ℕ → ℕ
names_cost c = 64 * (digits (c + 2) * (c + 1))

-- for the names of nodes, edges, faces and regions
abbrev pub all_names_cost : HeaderCounts → ℕ
all_names_cost c = names_cost (node_count c) + names_cost c.edges + names_cost (face_count c) + names_cost c.regions

-- for places, their order and the starts of components
abbrev pub placed_cost : HeaderCounts → ℕ
placed_cost c =
    2 * c.edges * (7 * digits (2 * c.edges + 2) + 84) + c.components * (38 * digits (2 * c.edges + 2) + 296) + c.isolated * (6 * digits (node_count c + 2) + 44)
