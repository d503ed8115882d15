-- What comes of the tables of a folder, and of a built file.
use Rattle.std.specs.Prelude.{◌≡◌, ℕ, ◌⊎◌, nat_lt, if◌then◌else◌, List, [], length, Option, Some, None, IfSome, IsSome, Result, Ok, Err, ⊤}
use Rattle.ports.specs.Outside.{Files}
use Rattle.topo_base.specs.declared.refusal.Refusal.{Refusal}
use Rattle.plane_model.specs.Rows.{Rows}
use Rattle.plane_model.specs.Reading.{node_rows, edge_rows, face_rows, region_rows, member_rows}
use Rattle.plane_model.specs.Faults.{first_fault}
use Rattle.map_maker.specs.Grid.{grid_of}
use Rattle.topo_cli.specs.Limits.{most_bytes}
use Rattle.file_laws.specs.Lawful.{first_fault as file_fault, map_of_file}
use Rattle.file_laws.specs.declared.fault.FileFault.{FileFault}
use Rattle.topo_cli.specs.Words.{Form, node_table, edge_table, face_table, region_table, member_table}

-- why there are no tables
pub data Ending : Type 0 where
  -- the words are of no form
  NoForm : Ending
  -- no file is held under this name
  Missing : List ℕ → Ending
  -- a table or a file has too many bytes
  Long : Ending
  Refused : Refusal → Ending
  -- a file is not lawful
  Unlawful : FileFault → Ending

infixl 10 ◌>>=◌
abbrev pub ◌>>=◌ : {A B : Type 0} → Result A Ending → (A → Result B Ending) → Result B Ending
(Ok x) >>= f = f x
(Err e) >>= f = Err e

abbrev pub or_refused : {A : Type 0} → Result A Refusal → Result A Ending
or_refused (Ok x) = Ok x
or_refused (Err e) = Err (Refused e)

abbrev pub read_by : {A : Type 0} → (List ℕ → Result A Refusal) → List ℕ → Result A Ending
read_by read bytes = if nat_lt most_bytes (length bytes) then Err Long else or_refused (read bytes)

abbrev pub read_or_missing : {A : Type 0} → (List ℕ → Result A Refusal) → List ℕ → Option (List ℕ) → Result A Ending
read_or_missing read name None = Err (Missing name)
read_or_missing read name (Some bytes) = read_by read bytes

-- what is read of the table of a name
unfoldable pub table : {A : Type 0} → (List ℕ → Result A Refusal) → Files → List ℕ → Result A Ending
table read files name = read_or_missing read name (files name)

abbrev pub read_or_none : {R : Type 0} → (List ℕ → Result (List R) Refusal) → Option (List ℕ) → Result (List R) Ending
read_or_none read None = Ok []
read_or_none read (Some bytes) = read_by read bytes

-- the same of a table that a folder may lack, which then has no rows
unfoldable pub optional_table : {R : Type 0} → (List ℕ → Result (List R) Refusal) → Files → List ℕ → Result (List R) Ending
optional_table read files name = read_or_none read (files name)

abbrev pub unless_fault : Rows → Option Refusal → Result Rows Ending
unless_fault t None = Ok t
unless_fault t (Some e) = Err (Refused e)

-- tables that are consistent, or the first fault
unfoldable pub checked : Rows → Result Rows Ending
checked t = unless_fault t (first_fault t)

-- the tables of a folder, which are asked for and read in this order
unfoldable pub loaded : Files → List ℕ → Result Rows Ending
loaded files dir = do
  nodes ← table node_rows files (node_table dir)
  edges ← table edge_rows files (edge_table dir)
  faces ← table face_rows files (face_table dir)
  regions ← optional_table region_rows files (region_table dir)
  members ← optional_table member_rows files (member_table dir)
  Ok (record { nodes = nodes; edges = edges; faces = faces; regions = regions; members = members })

-- the tables, where they are all read and consistent
abbrev pub served : Files → List ℕ → Result Rows Ending
served files dir = loaded files dir >>= checked

-- the tables that the bytes of a built file stand for, where they are lawful
abbrev pub unless_unlawful : List ℕ → Option FileFault → Result Rows Ending
unless_unlawful bytes None = Ok (map_of_file bytes)
unless_unlawful bytes (Some e) = Err (Unlawful e)

abbrev pub opened_by : List ℕ → Result Rows Ending
opened_by bytes = if nat_lt most_bytes (length bytes) then Err Long else unless_unlawful bytes (file_fault bytes)

abbrev pub opened_or_missing : List ℕ → Option (List ℕ) → Result Rows Ending
opened_or_missing name None = Err (Missing name)
opened_or_missing name (Some bytes) = opened_by bytes

-- the tables of a built file
unfoldable pub opened : Files → List ℕ → Result Rows Ending
opened files name = opened_or_missing name (files name)

-- a fact of what comes of the tables that words ask for, where the files that they need are told
abbrev pub OnRead : Option Files → Form → (Result Rows Ending → Type 0) → Type 0
OnRead files (Form.Ask dir) P = IfSome files (λ held. P (served held dir))
OnRead files (Form.Build dir file) P = IfSome files (λ held. P (served held dir))
OnRead files (Form.Query file) P = IfSome files (λ held. P (opened held file))
OnRead files (Form.Check file) P = IfSome files (λ held. P (opened held file))
OnRead files (Form.Trial n) P = P (checked (grid_of n))
OnRead files (Form.Hops file from to) P = IfSome files (λ held. P (opened held file))
OnRead files (Form.Border file region) P = IfSome files (λ held. P (opened held file))
OnRead files (Form.Upgrade old new) P = IfSome files (λ held. P (opened held old))
OnRead files (Form.Dump file dir) P = IfSome files (λ held. P (opened held file))

-- these are the tables that words ask for
abbrev pub IsSubject : Option Files → Form → Rows → Type 0
IsSubject files k t = OnRead files k (λ read. read ≡ Ok t)

-- the files that words need are told
abbrev pub AreTold : Option Files → Form → Type 0
AreTold files (Form.Ask dir) = IsSome files
AreTold files (Form.Build dir file) = IsSome files
AreTold files (Form.Query file) = IsSome files
AreTold files (Form.Check file) = IsSome files
AreTold files (Form.Trial n) = ⊤
AreTold files (Form.Hops file from to) = IsSome files
AreTold files (Form.Border file region) = IsSome files
AreTold files (Form.Upgrade old new) = IsSome files
AreTold files (Form.Dump file dir) = IsSome files

-- one of the names that a folder needs
abbrev pub IsTable : List ℕ → List ℕ → Type 0
IsTable dir name = (name ≡ node_table dir) ⊎ (name ≡ edge_table dir) ⊎ (name ≡ face_table dir)

-- one of the names that a form of words needs
abbrev pub IsNeeded : Form → List ℕ → Type 0
IsNeeded (Form.Ask dir) name = IsTable dir name
IsNeeded (Form.Build dir file) name = IsTable dir name
IsNeeded (Form.Query file) name = name ≡ file
IsNeeded (Form.Check file) name = name ≡ file
IsNeeded (Form.Trial n) name = ⊥
IsNeeded (Form.Hops file from to) name = name ≡ file
IsNeeded (Form.Border file region) name = name ≡ file
IsNeeded (Form.Upgrade old new) name = name ≡ old
IsNeeded (Form.Dump file dir) name = name ≡ file
