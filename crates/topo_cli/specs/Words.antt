-- The words that the program is given.
use Rattle.std.specs.Prelude.{ℕ, nat_le, if◌then◌else◌, List, [], ◌∷◌, ◌++◌, Option, Some, None, codes, bytes_eq, option_map, option_and_then}
use Rattle.topo_base.specs.Spelling.{id_number, positive_number}
use Rattle.topo_cli.specs.declared.command.Command.{Command}
use Rattle.topo_cli.specs.declared.command.Command.TheVariants as command

-- What words ask for. Each name has at least one byte.
pub data Form : Type 0 where
  -- `ask DIR`: answers to the script, from the tables of a folder
  Ask : List ℕ → Form
  -- `build DIR FILE`: the image of a folder's tables, written to a file
  Build : List ℕ → List ℕ → Form
  -- `query FILE`: answers to the script, from a built file
  Query : List ℕ → Form
  -- `check FILE`: whether a file is lawful
  Check : List ℕ → Form
  -- `trial N`: the sums of the walks over the grid of a size
  Trial : ℕ → Form
  -- `hops FILE F G`: a shortest walk from one face to another, in a built file
  Hops : List ℕ → ℕ → ℕ → Form
  -- `border FILE R`: the outline of a region, in a built file
  Border : List ℕ → ℕ → Form
  -- `upgrade OLD NEW`: the file of form 2 that stands for the map of a built file, written to a file
  Upgrade : List ℕ → List ℕ → Form
  -- `dump FILE DIR`: the tables of a built file, written to a folder
  Dump : List ℕ → List ℕ → Form

-- the size of a grid: plain decimal from 1 to 1000
abbrev pub grid_size : List ℕ → Option ℕ
grid_size text = option_and_then (λ n. if nat_le n 1000 then Some n else None) (positive_number text)

abbrev pub form_of_two : List ℕ → List ℕ → Option Form
form_of_two word [] = None
form_of_two word (b ∷ name) =
    if bytes_eq word (codes "ask") then Some (Ask (b ∷ name))
    else if bytes_eq word (codes "query") then Some (Query (b ∷ name))
    else if bytes_eq word (codes "check") then Some (Check (b ∷ name))
    else if bytes_eq word (codes "trial") then option_map Trial (grid_size (b ∷ name))
    else None

-- a region of a built file
abbrev pub border_of : List ℕ → List ℕ → Option Form
border_of file region = option_map (Border file) (positive_number region)

abbrev pub form_of_three : List ℕ → List ℕ → List ℕ → Option Form
form_of_three word [] second = None
form_of_three word (b ∷ first) [] = None
form_of_three word (b ∷ first) (c ∷ second) =
    if bytes_eq word (codes "build") then Some (Build (b ∷ first) (c ∷ second))
    else if bytes_eq word (codes "upgrade") then Some (Upgrade (b ∷ first) (c ∷ second))
    else if bytes_eq word (codes "dump") then Some (Dump (b ∷ first) (c ∷ second))
    else if bytes_eq word (codes "border") then border_of (b ∷ first) (c ∷ second)
    else None

-- two faces of a built file
abbrev pub hops_of : List ℕ → List ℕ → List ℕ → Option Form
hops_of file from to = option_and_then (λ f. option_map (Hops file f) (id_number to)) (id_number from)

abbrev pub form_of_four : List ℕ → List ℕ → List ℕ → List ℕ → Option Form
form_of_four word [] from to = None
form_of_four word (b ∷ file) from to = if bytes_eq word (codes "hops") then hops_of (b ∷ file) from to else None

-- the form of words, where they are of one
abbrev pub form : List (List ℕ) → Option Form
form [] = None
form (word ∷ []) = None
form (word ∷ name ∷ []) = form_of_two word name
form (word ∷ dir ∷ file ∷ []) = form_of_three word dir file
form (word ∷ file ∷ from ∷ to ∷ []) = form_of_four word file from to
form (word ∷ file ∷ from ∷ to ∷ fifth ∷ more) = None

-- what the code keeps of it
abbrev pub form_of : Command → Form
form_of (command.Ask dir) = Ask dir.now
form_of (command.Build dir file) = Build dir.now file.now
form_of (command.Query file) = Query file.now
form_of (command.Check file) = Check file.now
form_of (command.Trial size) = Trial size
form_of (command.Hops file from to) = Hops file.now from.0 to.0
form_of (command.Border file region) = Border file.now region.0
form_of (command.Upgrade old new) = Upgrade old.now new.now
form_of (command.Dump file dir) = Dump file.now dir.now

-- the names of a folder's tables
abbrev pub node_table : List ℕ → List ℕ
node_table dir = dir ++ codes "/node.csv"

abbrev pub edge_table : List ℕ → List ℕ
edge_table dir = dir ++ codes "/edge.csv"

abbrev pub face_table : List ℕ → List ℕ
face_table dir = dir ++ codes "/face.csv"

-- a folder may lack these two
abbrev pub region_table : List ℕ → List ℕ
region_table dir = dir ++ codes "/region.csv"

abbrev pub member_table : List ℕ → List ℕ
member_table dir = dir ++ codes "/member.csv"
