-- What stopped the loading of tables or of a file.
use Rattle.std.specs.Prelude.{◌≡◌, ℕ, List, Option, IfSome, Result, Ok, Err, IsTrue, string_bytes, ⊤}
use Rattle.ports.specs.Outside.{Files, IsNotHeld, Rose}
use Rattle.topo_cli.specs.Files.{IsLongFile}
use Rattle.topo_cli.specs.Tables.{Ending, IsTable, checked, served}
use Rattle.topo_cli.specs.Outcome.{IsImageOf}
use Rattle.plane_model.specs.Rows.{Rows}
use Rattle.plane_model.specs.Consistent.{is_consistent}
use Rattle.map_maker.specs.Grid.{grid_of}
use Rattle.map_build.specs.declared.fault.BuildFault.{BuildFault}
use Rattle.map_build.specs.declared.fault.BuildFault.TheVariants as build
use Rattle.topo_csv.specs.declared.fault.CsvFault.{CsvFault}
use Rattle.topo_csv.specs.declared.fault.CsvFault.TheVariants as csv
use Rattle.topo_cli.specs.declared.load.LoadFault.{LoadFault}
use Rattle.topo_cli.specs.declared.load.LoadFault.TheVariants as fault

-- this is what was met, where that is no want of memory and no failed read
abbrev pub IsMet : {A : Type 0} → LoadFault → Result A Ending → Type 0
IsMet (fault.Missing name) read = read ≡ Err (Ending.Missing (string_bytes name))
IsMet fault.ReadFault read = ⊤
IsMet fault.TooLong read = read ≡ Err Ending.Long
IsMet (fault.Refused e) read = read ≡ Err (Ending.Refused e)
IsMet (fault.Unlawful e) read = read ≡ Err (Ending.Unlawful e)
IsMet fault.Memory read = ⊤

-- the same, where the files are told
abbrev pub IsMetWhereTold : {A : Type 0} → Option Files → (Files → Result A Ending) → LoadFault → Type 0
IsMetWhereTold files read e = IfSome files (λ held. IsMet e (read held))

-- the count that shows it rose
abbrev pub ShowsInCounts : LoadFault → ℕ → ℕ → ℕ → ℕ → Type 0
ShowsInCounts (fault.Missing name) misses misses' faults faults' = Rose misses misses'
ShowsInCounts fault.ReadFault misses misses' faults faults' = Rose faults faults'
ShowsInCounts fault.TooLong misses misses' faults faults' = ⊤
ShowsInCounts (fault.Refused e) misses misses' faults faults' = ⊤
ShowsInCounts (fault.Unlawful e) misses misses' faults faults' = ⊤
ShowsInCounts fault.Memory misses misses' faults faults' = ⊤

-- what is missing is this name, and no file is unlawful
abbrev pub NamesOnly : List ℕ → LoadFault → Type 0
NamesOnly name (fault.Missing named) = string_bytes named ≡ name
NamesOnly name (fault.Unlawful e) = ⊥
NamesOnly name e = ⊤

-- nothing is missing, and no file is unlawful
abbrev pub MissesNothing : LoadFault → Type 0
MissesNothing (fault.Missing name) = ⊥
MissesNothing (fault.Unlawful e) = ⊥
MissesNothing e = ⊤

-- what is missing is one of the names that a folder needs, and no file is unlawful
abbrev pub NamesNeeded : List ℕ → LoadFault → Type 0
NamesNeeded dir (fault.Missing name) = IsTable dir (string_bytes name)
NamesNeeded dir (fault.Unlawful e) = ⊥
NamesNeeded dir e = ⊤

-- what is missing is this file, and no tables are refused
abbrev pub NamesFile : List ℕ → LoadFault → Type 0
NamesFile name (fault.Missing named) = string_bytes named ≡ name
NamesFile name (fault.Refused e) = ⊥
NamesFile name e = ⊤

-- the fault of reading rows, as one of loading
abbrev pub IsSame : CsvFault → LoadFault → Type 0
IsSame (csv.Refused why) e = e ≡ fault.Refused why
IsSame csv.Memory e = e ≡ fault.Memory

-- no rows were read yet
abbrev pub StopsReading : LoadFault → Type 0
StopsReading fault.ReadFault = ⊤
StopsReading fault.Memory = ⊤
StopsReading e = ⊥

-- a file that is not held, or is too long
abbrev pub IsStopped : Option Files → List ℕ → LoadFault → Type 0
IsStopped files name (fault.Missing named) = IsNotHeld files name
IsStopped files name fault.TooLong = IsLongFile files name
IsStopped files name e = StopsReading e

-- the fault of building, as one of loading
abbrev pub IsSameBuild : BuildFault → LoadFault → Type 0
IsSameBuild (build.Refused why) e = e ≡ fault.Refused why
IsSameBuild build.Memory e = e ≡ fault.Memory

-- an image of tables that are consistent, those of the folder where that is told
pub record Builds (files : Option Files) (dir image : List ℕ) : Type 0 where
  pub tables : Rows
  pub are : IfSome files (λ held. served held dir ≡ Ok tables)
  pub consistent : IsTrue (is_consistent tables)
  pub is : IsImageOf tables image

-- an image of a grid that is consistent
pub record BuildsGrid (n : ℕ) (image : List ℕ) : Type 0 where
  pub are : checked (grid_of n) ≡ Ok (grid_of n)
  pub consistent : IsTrue (is_consistent (grid_of n))
  pub is : IsImageOf (grid_of n) image

-- no name is missing, and no file is unlawful
abbrev pub NamesNothing : LoadFault → Type 0
NamesNothing (fault.Refused e) = ⊤
NamesNothing fault.Memory = ⊤
NamesNothing e = ⊥
