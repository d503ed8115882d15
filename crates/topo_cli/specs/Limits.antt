-- What the program takes at most.
use Rattle.std.specs.Prelude.{ℕ}

-- the most bytes of a table, a file or a script
abbrev pub most_bytes : ℕ
most_bytes = 1_073_741_824
