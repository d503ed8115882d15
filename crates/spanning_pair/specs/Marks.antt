-- What the marks of edges say.
use Rattle.std.specs.Prelude.{List, Bool, true, false, map}
use Rattle.spanning_pair.specs.declared.marks.EdgeMark.{EdgeMark}
use Rattle.spanning_pair.specs.declared.marks.EdgeMark.TheVariants.{New, Tree, Other}

abbrev pub is_seen : EdgeMark → Bool
is_seen New = false
is_seen Tree = true
is_seen Other = true

abbrev pub is_tree : EdgeMark → Bool
is_tree New = false
is_tree Tree = true
is_tree Other = false

-- the mark of a new edge, whose head was visited or not
abbrev pub mark_where : Bool → EdgeMark
mark_where true = Other
mark_where false = Tree

-- which edges were seen, and which of them are tree edges
abbrev pub seen_in : List EdgeMark → List Bool
seen_in marks = map is_seen marks

abbrev pub trees_in : List EdgeMark → List Bool
trees_in marks = map is_tree marks
