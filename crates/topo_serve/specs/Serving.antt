-- What serving takes, writes and reads.
use Rattle.std.specs.Prelude.{◌≡◌, ℕ, ◌+◌, ◌*◌, ◌≤◌, Bool, true, false, if◌then◌else◌, List, [], ◌∷◌, flat_map, length, take, unwrap_or, Option, Some, Result, Ok, Err}
use Rattle.std.specs.Io.KnownBytes.{Appends, Consumes}
use Rattle.ports.specs.Outside.{Rose, GainsPart, IsReadToEnd}
use Rattle.topo_base.specs.Script.{Query, Line, lines, line}
use Rattle.bit_words.specs.Digits.{digits}
use Rattle.plane_model.specs.PlaneMap.{PlaneMap}
use Rattle.plane_model.specs.Consistent.{size}
use Rattle.plane_model.specs.Answers.{answer, answers, items, listed, walked, query_walked}
use Rattle.navigate.specs.Bound.{most_words}
use Rattle.topo_serve.specs.Pieces.{ended_lines}
use Rattle.topo_serve.specs.declared.fault.ServeFault.{ServeFault}
use Rattle.topo_serve.specs.declared.fault.ServeFault.TheVariants.{ReadFault, WriteFault, ScriptTooLong}

-- the most bytes of a script
abbrev pub most_bytes : ℕ
most_bytes = 1073741824

-- the sum of a number over lines
unfoldable pub over_lines : (List ℕ → ℕ) → List (List ℕ) → ℕ
over_lines f [] = 0
over_lines f (l ∷ ls) = f l + over_lines f ls

-- how many words are read at most to answer a query, and a line
abbrev pub words_of_query : PlaneMap → Query → ℕ
words_of_query m q = most_words m (query_walked m q) (length (unwrap_or (items m q) []))

abbrev pub words_to_answer : PlaneMap → List ℕ → ℕ
words_to_answer m bytes = most_words m (walked m bytes) (listed m bytes)

-- and for a line in all: to look its id up ahead, and to answer it
abbrev pub words_of_line : PlaneMap → List ℕ → ℕ
words_of_line m bytes = 256 * digits (size m) * (walked m bytes + listed m bytes + 2)

-- whether a query asks for the counts, whose items stand in the file's head
abbrev pub is_counts : Query → Bool
is_counts Query.Counts = true
is_counts q = false

-- how many items of a query are found by a read each: all, but for the counts. And of a line
abbrev pub found_for : PlaneMap → Query → ℕ
found_for m q = if is_counts q then 0 else length (unwrap_or (items m q) [])

abbrev pub found_in : PlaneMap → Line → ℕ
found_in m (Line.Ask q) = found_for m q
found_in m l = 0

abbrev pub found_by_reads : PlaneMap → List ℕ → ℕ
found_by_reads m bytes = found_in m (line bytes)

-- what is read for some lines: a word for each item found by a read, and at most what each line may read
pub record ReadsFor (m : PlaneMap) (ls : List (List ℕ)) (before after : ℕ) : Type 0 where
  pub least : before + over_lines (found_by_reads m) ls ≤ after
  pub most : after ≤ before + over_lines (words_of_line m) ls

-- the answers to the lines that end in these bytes
abbrev pub ended_answers : PlaneMap → List ℕ → List ℕ
ended_answers m bytes = flat_map (answer m) (ended_lines bytes)

-- what a call begins and ends with
pub record Call : Type 0 where
  pub script_before : Option (List ℕ)
  pub script_after : Option (List ℕ)
  pub script_faults_before : ℕ
  pub script_faults_after : ℕ
  pub out_before : Option (List ℕ)
  pub out_after : Option (List ℕ)
  pub out_faults_before : ℕ
  pub out_faults_after : ℕ
  pub steps_before : ℕ
  pub steps_after : ℕ

-- the script was read to its end, and its answers and nothing else were appended
pub record IsServed (m : PlaneMap) (c : Call) (taken : List ℕ) : Type 0 where
  pub whole : IsReadToEnd c.script_before c.script_after
  pub within : length taken ≤ most_bytes
  pub gained : Appends c.out_before c.out_after (answers m taken)
  pub reads : ReadsFor m (lines taken) c.steps_before c.steps_after
  pub script_stays : c.script_faults_after ≡ c.script_faults_before
  pub out_stays : c.out_faults_after ≡ c.out_faults_before

-- a call of the script failed: the lines that ended before were answered, and an unended one was not
pub record IsReadFault (m : PlaneMap) (c : Call) (taken : List ℕ) : Type 0 where
  pub cause : Rose c.script_faults_before c.script_faults_after
  pub within : length taken ≤ most_bytes
  pub gained : Appends c.out_before c.out_after (ended_answers m taken)
  pub reads : ReadsFor m (ended_lines taken) c.steps_before c.steps_after
  pub out_stays : c.out_faults_after ≡ c.out_faults_before

-- a call of the sink failed: bytes at the front of the answers were appended
pub record IsWriteFault (m : PlaneMap) (c : Call) (taken : List ℕ) : Type 0 where
  pub cause : Rose c.out_faults_before c.out_faults_after
  pub within : length taken ≤ most_bytes
  pub gained : GainsPart c.out_before c.out_after (answers m taken)
  pub grows : c.steps_before ≤ c.steps_after
  pub most : c.steps_after ≤ c.steps_before + over_lines (words_of_line m) (lines taken)
  pub script_stays : c.script_faults_after ≡ c.script_faults_before

-- the byte past the limit was taken, and none behind it: the lines that ended within the limit were answered
pub record IsTooLong (m : PlaneMap) (c : Call) (taken : List ℕ) : Type 0 where
  pub past : length taken ≡ most_bytes + 1
  pub gained : Appends c.out_before c.out_after (ended_answers m (take most_bytes taken))
  pub reads : ReadsFor m (ended_lines (take most_bytes taken)) c.steps_before c.steps_after
  pub script_stays : c.script_faults_after ≡ c.script_faults_before
  pub out_stays : c.out_faults_after ≡ c.out_faults_before

-- what each answer says of a call that took these bytes
abbrev pub ServeSays : PlaneMap → Call → List ℕ → Result (Unit {0}) ServeFault → Type 0
ServeSays m c taken (Ok x) = IsServed m c taken
ServeSays m c taken (Err ReadFault) = IsReadFault m c taken
ServeSays m c taken (Err WriteFault) = IsWriteFault m c taken
ServeSays m c taken (Err ScriptTooLong) = IsTooLong m c taken

-- a script that is told and not too long, and no count of faults rose
pub record IsFine (c : Call) : Type 0 where
  pub script : List ℕ
  pub told : c.script_before ≡ Some script
  pub short : length script ≤ most_bytes
  pub no_script_fault : ¬ (Rose c.script_faults_before c.script_faults_after)
  pub no_out_fault : ¬ (Rose c.out_faults_before c.out_faults_after)

-- what holds on every answer: which bytes were taken, what the answer says, that no count fell, and that such a call
-- succeeds where all is fine
pub record Serves (m : PlaneMap) (c : Call) (result : Result (Unit {0}) ServeFault) : Type 0 where
  pub taken : List ℕ
  pub consumed : Consumes c.script_before c.script_after taken
  pub ends : ServeSays m c taken result
  pub script_faults : c.script_faults_before ≤ c.script_faults_after
  pub out_faults : c.out_faults_before ≤ c.out_faults_after
  pub complete : IsFine c → result ≡ Ok tt
