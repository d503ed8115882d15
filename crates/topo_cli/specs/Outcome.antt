-- What each status of the program says of a call.
use Rattle.std.specs.Prelude.{◌≡◌, ℕ, ◌+◌, ◌*◌, ◌≤◌, ◌⊎◌, List, [], ◌∷◌, ◌++◌, length, take, Option, Some, None, IfSome, IsSome, Result, Ok, Err, IsTrue, ⊤}
use Rattle.std.specs.Io.KnownBytes.{Appends, Consumes}
use Rattle.bit_words.specs.Digits.{digits}
use Rattle.ports.specs.Outside.{Files, Rose, GainsPart, IsReadToEnd, OthersStay, WhereTold}
use Rattle.topo_base.specs.Script.{lines}
use Rattle.topo_base.specs.declared.refusal.Refusal.{Refusal}
use Rattle.plane_model.specs.Rows.{Rows}
use Rattle.plane_model.specs.PlaneMap.{PlaneMap, map_of}
use Rattle.plane_model.specs.Consistent.{is_consistent, size}
use Rattle.plane_model.specs.Answers.{answers}
use Rattle.plane_model.specs.Texts.{table_text}
use Rattle.topo_base.specs.declared.refusal.Table.TheVariants as table
use Rattle.file_laws.specs.Image.{image_of}
use Rattle.file_laws.specs.Lawful.{StandsFor, is_lawful}
use Rattle.map_build.specs.Made.{contents_of_map}
use Rattle.map_totals.specs.Totals.{adjacent_total, face_total, most_total_words, node_total}
use Rattle.face_hops.specs.Prices.{most_hop_words}
use Rattle.region_border.specs.Prices.{most_border_words}
use Rattle.outline_text.specs.Lines.{border_text, edges_told}
use Rattle.file_parts.specs.Upgrade.{IsUpgradeOf}
use Rattle.table_dump.specs.Dumped.{AreWritten, AreWrittenInPart, NamedText}
use Rattle.table_dump.specs.Prices.{most_dump_words}
use Rattle.topo_serve.specs.Serving.{ended_answers, found_by_reads, over_lines, words_of_line}
use Rattle.file_laws.specs.declared.fault.FileFault.{FileFault}
use Rattle.topo_cli.specs.declared.status.Status.{Status}
use Rattle.topo_cli.specs.declared.status.Status.TheVariants as status
use Rattle.topo_cli.specs.Limits.{most_bytes}
use Rattle.topo_cli.specs.Words.{Form, node_table, edge_table, face_table, region_table, member_table}
use Rattle.topo_cli.specs.Call.{Call, IsIdle}
use Rattle.topo_cli.specs.Tables.{AreTold, Ending, IsNeeded, IsSubject, OnRead}
use Rattle.topo_cli.specs.Text.{built_line, dumped_line, has_both_faces, hops_line, lawful_line, moves_between, status_line, trial_text, upgraded_line}

-- what was written, and nothing else
abbrev pub Wrote : Call → List ℕ → Type 0
Wrote c bytes = Appends c.out.held_before c.out.held_after bytes

-- some bytes at the front of these were written, and nothing else
abbrev pub WrotePart : Call → List ℕ → Type 0
WrotePart c bytes = GainsPart c.out.held_before c.out.held_after bytes

-- the words are of a form, of which this holds
abbrev pub HasForm : (Form → Type 0) → Option Form → Type 0
HasForm P None = ⊥
HasForm P (Some k) = P k

abbrev pub ReadsScript : Form → Type 0
ReadsScript (Form.Ask dir) = ⊤
ReadsScript (Form.Build dir file) = ⊥
ReadsScript (Form.Query file) = ⊤
ReadsScript (Form.Check file) = ⊥
ReadsScript (Form.Trial n) = ⊥
ReadsScript (Form.Hops file from to) = ⊥
ReadsScript (Form.Border file region) = ⊥
ReadsScript (Form.Upgrade old new) = ⊥
ReadsScript (Form.Dump file dir) = ⊥

abbrev pub ChecksTables : Form → Type 0
ChecksTables (Form.Ask dir) = ⊤
ChecksTables (Form.Build dir file) = ⊤
ChecksTables (Form.Query file) = ⊥
ChecksTables (Form.Check file) = ⊥
ChecksTables (Form.Trial n) = ⊤
ChecksTables (Form.Hops file from to) = ⊥
ChecksTables (Form.Border file region) = ⊥
ChecksTables (Form.Upgrade old new) = ⊥
ChecksTables (Form.Dump file dir) = ⊥

abbrev pub OpensFile : Form → Type 0
OpensFile (Form.Ask dir) = ⊥
OpensFile (Form.Build dir file) = ⊥
OpensFile (Form.Query file) = ⊤
OpensFile (Form.Check file) = ⊤
OpensFile (Form.Trial n) = ⊥
OpensFile (Form.Hops file from to) = ⊤
OpensFile (Form.Border file region) = ⊤
OpensFile (Form.Upgrade old new) = ⊤
OpensFile (Form.Dump file dir) = ⊤

abbrev pub ReadsShelf : Form → Type 0
ReadsShelf (Form.Ask dir) = ⊤
ReadsShelf (Form.Build dir file) = ⊤
ReadsShelf (Form.Query file) = ⊤
ReadsShelf (Form.Check file) = ⊤
ReadsShelf (Form.Trial n) = ⊥
ReadsShelf (Form.Hops file from to) = ⊤
ReadsShelf (Form.Border file region) = ⊤
ReadsShelf (Form.Upgrade old new) = ⊤
ReadsShelf (Form.Dump file dir) = ⊤

abbrev pub WritesFile : Form → Type 0
WritesFile (Form.Ask dir) = ⊥
WritesFile (Form.Build dir file) = ⊤
WritesFile (Form.Query file) = ⊥
WritesFile (Form.Check file) = ⊥
WritesFile (Form.Trial n) = ⊥
WritesFile (Form.Hops file from to) = ⊥
WritesFile (Form.Border file region) = ⊥
WritesFile (Form.Upgrade old new) = ⊤
WritesFile (Form.Dump file dir) = ⊤

-- a fact of what comes of the tables or the file that the words name, where the files that they need are told
abbrev pub OnSubject : Call → (Form → Result Rows Ending → Type 0) → Type 0
OnSubject c P = IfSome c.form (λ k. OnRead c.shelf.files_before k (P k))

-- there are consistent tables, of which this holds; they are those that the words name, where the files are told
pub record HasTables (c : Call) (P : Rows → Type 0) : Type 0 where
  pub tables : Rows
  pub are : IfSome c.form (λ k. IsSubject c.shelf.files_before k tables)
  pub consistent : IsTrue (is_consistent tables)
  pub holds : P tables

-- the script was not asked for anything
abbrev pub IsUnread : Call → Type 0
IsUnread c = IsIdle c.script

-- some bytes of the script were taken, of which this holds
pub record TookOfScript (c : Call) (P : List ℕ → Type 0) : Type 0 where
  pub taken : List ℕ
  pub consumed : Consumes c.script.left_before c.script.left_after taken
  pub holds : P taken

-- at most so many bytes of the script were taken
abbrev pub TookAtMost : ℕ → Option (List ℕ) → Option (List ℕ) → Type 0
TookAtMost most None after = ⊤
TookAtMost most (Some before) None = ⊥
TookAtMost most (Some before) (Some after) = length before ≤ most + length after

-- the byte behind the most bytes is taken where that makes a script too long, and none behind it
abbrev pub most_taken : Status → ℕ
most_taken status.Done = most_bytes
most_taken status.Usage = most_bytes
most_taken status.TablesRefused = most_bytes
most_taken status.FileRefused = most_bytes
most_taken status.ReadFault = most_bytes
most_taken status.WriteFault = most_bytes
most_taken status.Memory = most_bytes
most_taken status.Missing = most_bytes
most_taken status.TooLong = most_bytes + 1

-- the script waits for tables that are served
abbrev pub IsUnreadUnlessServed : Call → Result Rows Ending → Type 0
IsUnreadUnlessServed c (Ok t) = ⊤
IsUnreadUnlessServed c (Err e) = IsUnread c

-- it is read for `ask` and `query` alone
abbrev pub ScriptWaits : Call → Form → Type 0
ScriptWaits c (Form.Ask dir) = OnRead c.shelf.files_before (Form.Ask dir) (IsUnreadUnlessServed c)
ScriptWaits c (Form.Build dir file) = IsUnread c
ScriptWaits c (Form.Query file) = OnRead c.shelf.files_before (Form.Query file) (IsUnreadUnlessServed c)
ScriptWaits c (Form.Check file) = IsUnread c
ScriptWaits c (Form.Trial n) = IsUnread c
ScriptWaits c (Form.Hops file from to) = IsUnread c
ScriptWaits c (Form.Border file region) = IsUnread c
ScriptWaits c (Form.Upgrade old new) = IsUnread c
ScriptWaits c (Form.Dump file dir) = IsUnread c

-- what is taken of the script, whatever the status
pub record IsScriptTaken (c : Call) (s : Status) : Type 0 where
  pub without_form : c.form ≡ None → IsUnread c
  pub waits : IfSome c.form (ScriptWaits c)
  pub few : TookAtMost (most_taken s) c.script.left_before c.script.left_after

-- the one image of the map of tables: a lawful file of form 2 that stands for them
pub record IsImageOf (t : Rows) (image : List ℕ) : Type 0 where
  pub is : image ≡ image_of 2 (contents_of_map (map_of t))
  pub lawful : IsTrue (is_lawful image)
  pub stands : StandsFor image t

-- the file of form 2 of what a file holds whose bytes are lawful
pub record IsUpgrade (files : Files) (old image : List ℕ) : Type 0 where
  pub bytes : List ℕ
  pub held : files old ≡ Some bytes
  pub lawful : IsTrue (is_lawful bytes)
  pub is : IsUpgradeOf bytes image

-- a name holds an image such as this, and all other names are as before
pub record HoldsSuch (IsSuch : List ℕ → Type 0) (name : List ℕ) (before after : Files) : Type 0 where
  pub image : List ℕ
  pub is : IsSuch image
  pub held : after name ≡ Some image
  pub others : OthersStay name before after

-- a name holds what it held, or nothing, or a part of an image such as this from its first byte on, and all other names
-- are as before
pub record HoldsPartOfSuch (IsSuch : List ℕ → Type 0) (name : List ℕ) (before after : Files) : Type 0 where
  pub image : List ℕ
  pub is : IsSuch image
  pub held : (after name ≡ before name) ⊎ (after name ≡ None) ⊎ ((part : List ℕ) × (rest : List ℕ) × (part ++ rest ≡ image) × (after name ≡ Some part))
  pub others : OthersStay name before after

-- the name holds the image of these tables, or a part of it
abbrev pub HoldsImage : List ℕ → Rows → Files → Files → Type 0
HoldsImage file t before after = HoldsSuch (IsImageOf t) file before after

abbrev pub HoldsPart : List ℕ → Rows → Files → Files → Type 0
HoldsPart file t before after = HoldsPartOfSuch (IsImageOf t) file before after

-- the new name holds the upgrade of what the old one held, or a part of it
abbrev pub HoldsUpgrade : List ℕ → List ℕ → Rows → Files → Files → Type 0
HoldsUpgrade old new t before after = HoldsSuch (IsUpgrade before old) new before after

abbrev pub HoldsUpgradePart : List ℕ → List ℕ → Rows → Files → Files → Type 0
HoldsUpgradePart old new t before after = HoldsPartOfSuch (IsUpgrade before old) new before after

-- the tables of a map in a folder, in the order in which they are written
abbrev pub folder_of : List ℕ → PlaneMap → List NamedText
folder_of dir m =
    record { name = node_table dir; bytes = table_text m table.Node }
    ∷ record { name = edge_table dir; bytes = table_text m table.Edge }
    ∷ record { name = face_table dir; bytes = table_text m table.Face }
    ∷ record { name = region_table dir; bytes = table_text m table.Region }
    ∷ record { name = member_table dir; bytes = table_text m table.Member }
    ∷ []

-- the folder holds each table, or those before one of them, and a part of that one; all other names are as before
abbrev pub HoldsFolder : List ℕ → Rows → Files → Files → Type 0
HoldsFolder dir t before after = AreWritten (folder_of dir (map_of t)) before after

abbrev pub HoldsFolderPart : List ℕ → Rows → Files → Files → Type 0
HoldsFolderPart dir t before after = AreWrittenInPart (folder_of dir (map_of t)) before after

-- the shelf's files are as before
abbrev pub KeepsFiles : Call → Type 0
KeepsFiles c = c.shelf.files_after ≡ c.shelf.files_before

-- what a finished command leaves of these tables, and one whose write failed
abbrev pub LeavesWhole : Call → (Rows → Files → Files → Type 0) → Result Rows Ending → Type 0
LeavesWhole c Whole (Ok t) = WhereTold (Whole t) c.shelf.files_before c.shelf.files_after
LeavesWhole c Whole (Err e) = ⊥

abbrev pub LeavesPart : Call → (Rows → Files → Files → Type 0) → Result Rows Ending → Type 0
LeavesPart c Part (Ok t) = WhereTold (Part t) c.shelf.files_before c.shelf.files_after
LeavesPart c Part (Err e) = KeepsFiles c

-- what a command that writes leaves
abbrev pub LeavesWritten : Call → Form → (Rows → Files → Files → Type 0) → (Rows → Files → Files → Type 0) → Status → Type 0
LeavesWritten c k Whole Part status.Done = OnRead c.shelf.files_before k (LeavesWhole c Whole)
LeavesWritten c k Whole Part status.WriteFault = OnRead c.shelf.files_before k (LeavesPart c Part)
LeavesWritten c k Whole Part status.Usage = KeepsFiles c
LeavesWritten c k Whole Part status.TablesRefused = KeepsFiles c
LeavesWritten c k Whole Part status.FileRefused = KeepsFiles c
LeavesWritten c k Whole Part status.ReadFault = KeepsFiles c
LeavesWritten c k Whole Part status.Memory = KeepsFiles c
LeavesWritten c k Whole Part status.Missing = KeepsFiles c
LeavesWritten c k Whole Part status.TooLong = KeepsFiles c

-- what stands on the shelf after a status: `build`, `upgrade` and `dump` alone change it
abbrev pub LeavesFiles : Call → Status → Option Form → Type 0
LeavesFiles c s None = KeepsFiles c
LeavesFiles c s (Some (Form.Ask dir)) = KeepsFiles c
LeavesFiles c s (Some (Form.Build dir file)) = LeavesWritten c (Form.Build dir file) (HoldsImage file) (HoldsPart file) s
LeavesFiles c s (Some (Form.Query file)) = KeepsFiles c
LeavesFiles c s (Some (Form.Check file)) = KeepsFiles c
LeavesFiles c s (Some (Form.Trial n)) = KeepsFiles c
LeavesFiles c s (Some (Form.Hops file from to)) = KeepsFiles c
LeavesFiles c s (Some (Form.Border file region)) = KeepsFiles c
LeavesFiles c s (Some (Form.Upgrade old new)) = LeavesWritten c (Form.Upgrade old new) (HoldsUpgrade old new) (HoldsUpgradePart old new) s
LeavesFiles c s (Some (Form.Dump file dir)) = LeavesWritten c (Form.Dump file dir) (HoldsFolder dir) (HoldsFolderPart dir) s

-- how many words may be read to open and check the file of a map
abbrev pub words_to_open : PlaneMap → ℕ
words_to_open m = 1024 * digits (size m) * (size m + 2)

-- how many words may be read to open an image that was just built: some of its header, whatever the map
abbrev pub words_of_built : ℕ
words_of_built = 11

-- all of the script was taken, and answered from a map that was opened by so many words; words were read for each item
-- but those of `counts`, and as many as the lines allow
pub record IsAnswered (c : Call) (m : PlaneMap) (opening : ℕ) (script : List ℕ) : Type 0 where
  pub whole : IsReadToEnd c.script.left_before c.script.left_after
  pub short : length script ≤ most_bytes
  pub wrote : Wrote c (answers m script)
  pub least : c.steps_before + over_lines (found_by_reads m) (lines script) ≤ c.steps_after
  pub most : c.steps_after ≤ c.steps_before + opening + over_lines (words_of_line m) (lines script)

-- a line of a map that was opened by so many words was written
pub record IsReported (c : Call) (opening : ℕ) (line : List ℕ) : Type 0 where
  pub wrote : Wrote c line
  pub most : c.steps_after ≤ c.steps_before + opening

-- the map of a grid was walked
pub record IsWalked (c : Call) (m : PlaneMap) (n : ℕ) : Type 0 where
  pub wrote : Wrote c (trial_text n m)
  pub least : c.steps_before + (face_total m + node_total m + adjacent_total m) ≤ c.steps_after
  pub most : c.steps_after ≤ c.steps_before + words_of_built + most_total_words m

-- the line of a shortest walk was written; words were read for each of its moves
pub record IsHopped (c : Call) (m : PlaneMap) (from to : ℕ) : Type 0 where
  pub wrote : Wrote c (hops_line m from to)
  pub least : IsTrue (has_both_faces m from to) → c.steps_before + moves_between m from to ≤ c.steps_after
  pub most : c.steps_after ≤ c.steps_before + words_to_open m + most_hop_words m

-- the lines of the outline of a region were written; words were read for each of its edges
pub record IsOutlined (c : Call) (m : PlaneMap) (region : ℕ) : Type 0 where
  pub wrote : Wrote c (border_text m region)
  pub least : c.steps_before + edges_told m region ≤ c.steps_after
  pub most : c.steps_after ≤ c.steps_before + words_to_open m + most_border_words m

-- the tables of the map of a file were written, and a line of its counts; words were read for each of its edges
pub record IsDumped (c : Call) (m : PlaneMap) : Type 0 where
  pub wrote : Wrote c (dumped_line m)
  pub least : c.steps_before + length m.edges.keys ≤ c.steps_after
  pub most : c.steps_after ≤ c.steps_before + words_to_open m + most_dump_words m

-- what is done for tables that are consistent, or that a lawful file stands for
abbrev pub Finished : Call → Rows → Form → Type 0
Finished c t (Form.Ask dir) = TookOfScript c (IsAnswered c (map_of t) words_of_built)
Finished c t (Form.Build dir file) = IsReported c words_of_built (built_line (map_of t))
Finished c t (Form.Query file) = TookOfScript c (IsAnswered c (map_of t) (words_to_open (map_of t)))
Finished c t (Form.Check file) = IsReported c (words_to_open (map_of t)) (lawful_line (map_of t))
Finished c t (Form.Trial n) = IsWalked c (map_of t) n
Finished c t (Form.Hops file from to) = IsHopped c (map_of t) from to
Finished c t (Form.Border file region) = IsOutlined c (map_of t) region
Finished c t (Form.Upgrade old new) = Wrote c (upgraded_line (map_of t))
Finished c t (Form.Dump file dir) = IsDumped c (map_of t)

-- all was done
pub record IsDone (c : Call) : Type 0 where
  pub form : IsSome c.form
  pub finished : HasTables c (λ t. IfSome c.form (Finished c t))

-- the words are of no form
pub record IsUsage (c : Call) : Type 0 where
  pub form : c.form ≡ None
  pub wrote : Wrote c (status_line Ending.NoForm)
  pub unread : IsUnread c

-- what came first is this, and its line was written
pub record CameFirst (c : Call) (e : Ending) : Type 0 where
  pub wrote : Wrote c (status_line e)
  pub first : OnSubject c (λ k read. read ≡ Err e)

-- a needed table or file is not held
pub record IsMissing (c : Call) : Type 0 where
  pub form : IsSome c.form
  pub cause : Rose c.shelf.misses_before c.shelf.misses_after
  pub name : IfSome c.form (λ k. (name : List ℕ) × IsNeeded k name × CameFirst c (Ending.Missing name))
  pub unread : IsUnread c

-- the tables are refused
pub record AreTablesRefused (c : Call) : Type 0 where
  pub form : HasForm ChecksTables c.form
  pub why : (e : Refusal) × CameFirst c (Ending.Refused e)
  pub unread : IsUnread c

-- the file is refused
pub record IsFileRefused (c : Call) : Type 0 where
  pub form : HasForm OpensFile c.form
  pub why : (e : FileFault) × CameFirst c (Ending.Unlawful e)
  pub unread : IsUnread c

-- a read of the shelf failed
pub record IsShelfFault (c : Call) : Type 0 where
  pub rose : Rose c.shelf.faults_before c.shelf.faults_after
  pub form : HasForm ReadsShelf c.form
  pub wrote : Wrote c []
  pub unread : IsUnread c

-- the lines that had ended were answered when a read of the script failed
pub record IsCutOff (c : Call) (m : PlaneMap) (taken : List ℕ) : Type 0 where
  pub short : length taken ≤ most_bytes
  pub wrote : Wrote c (ended_answers m taken)

-- the tables are served, and a read of the script failed
pub record IsScriptFault (c : Call) : Type 0 where
  pub rose : Rose c.script.faults_before c.script.faults_after
  pub form : HasForm ReadsScript c.form
  pub served : HasTables c (λ t. TookOfScript c (IsCutOff c (map_of t)))

-- a part was written of what a command writes
abbrev pub FinishedPart : Call → Rows → Form → Type 0
FinishedPart c t (Form.Ask dir) = TookOfScript c (λ taken. (length taken ≤ most_bytes) × WrotePart c (answers (map_of t) taken))
FinishedPart c t (Form.Build dir file) = WrotePart c (built_line (map_of t))
FinishedPart c t (Form.Query file) = TookOfScript c (λ taken. (length taken ≤ most_bytes) × WrotePart c (answers (map_of t) taken))
FinishedPart c t (Form.Check file) = WrotePart c (lawful_line (map_of t))
FinishedPart c t (Form.Trial n) = WrotePart c (trial_text n (map_of t))
FinishedPart c t (Form.Hops file from to) = WrotePart c (hops_line (map_of t) from to)
FinishedPart c t (Form.Border file region) = WrotePart c (border_text (map_of t) region)
FinishedPart c t (Form.Upgrade old new) = WrotePart c (upgraded_line (map_of t))
FinishedPart c t (Form.Dump file dir) = WrotePart c (dumped_line (map_of t))

-- a part was written of the line of a status, or of what a command writes
abbrev pub WrotePartOf : Call → Form → Result Rows Ending → Type 0
WrotePartOf c k (Ok t) = FinishedPart c t k
WrotePartOf c k (Err Ending.NoForm) = ⊥
WrotePartOf c k (Err (Ending.Missing name)) = WrotePart c (status_line (Ending.Missing name))
WrotePartOf c k (Err Ending.Long) = ⊥
WrotePartOf c k (Err (Ending.Refused e)) = WrotePart c (status_line (Ending.Refused e))
WrotePartOf c k (Err (Ending.Unlawful e)) = WrotePart c (status_line (Ending.Unlawful e))

-- the tables are consistent or the file that is read is lawful, and what the command writes could not be written
pub record IsUnwritten (c : Call) : Type 0 where
  pub rose : Rose c.shelf.write_faults_before c.shelf.write_faults_after
  pub form : HasForm WritesFile c.form
  pub consistent : HasTables c (λ t. ⊤)
  pub wrote : Wrote c []

-- a write failed
pub record IsWriteFault (c : Call) : Type 0 where
  pub cause : Rose c.out.faults_before c.out.faults_after ⊎ IsUnwritten c
  pub usage : c.form ≡ None → WrotePart c (status_line Ending.NoForm)
  pub wrote : OnSubject c (WrotePartOf c)

-- memory ran out, before the script was asked for a byte
pub record IsMemory (c : Call) : Type 0 where
  pub form : IsSome c.form
  pub wrote : Wrote c []
  pub unread : IsUnread c

-- a table or the file has too many bytes
pub record IsLongHeld (c : Call) : Type 0 where
  pub form : HasForm ReadsShelf c.form
  pub first : OnSubject c (λ k read. read ≡ Err Ending.Long)
  pub wrote : Wrote c []
  pub unread : IsUnread c

-- the byte behind the most bytes of the script was taken: the lines that end before it were answered
pub record IsPastTheMost (c : Call) (m : PlaneMap) (taken : List ℕ) : Type 0 where
  pub past : length taken ≡ most_bytes + 1
  pub wrote : Wrote c (ended_answers m (take most_bytes taken))

-- the tables are served, and the script has too many bytes
pub record IsLongScript (c : Call) : Type 0 where
  pub form : HasForm ReadsScript c.form
  pub served : HasTables c (λ t. TookOfScript c (IsPastTheMost c (map_of t)))

-- what a status says of the call
abbrev pub Says : Call → Status → Type 0
Says c status.Done = IsDone c
Says c status.Usage = IsUsage c
Says c status.TablesRefused = AreTablesRefused c
Says c status.FileRefused = IsFileRefused c
Says c status.ReadFault = IsShelfFault c ⊎ IsScriptFault c
Says c status.WriteFault = IsWriteFault c
Says c status.Memory = IsMemory c
Says c status.Missing = IsMissing c
Says c status.TooLong = IsLongHeld c ⊎ IsLongScript c

-- a script that is told and not too long
pub record IsScriptFine (c : Call) : Type 0 where
  pub script : List ℕ
  pub told : c.script.left_before ≡ Some script
  pub short : length script ≤ most_bytes

abbrev pub IsScriptFineFor : Call → Form → Type 0
IsScriptFineFor c (Form.Ask dir) = IsScriptFine c
IsScriptFineFor c (Form.Build dir file) = ⊤
IsScriptFineFor c (Form.Query file) = IsScriptFine c
IsScriptFineFor c (Form.Check file) = ⊤
IsScriptFineFor c (Form.Trial n) = ⊤
IsScriptFineFor c (Form.Hops file from to) = ⊤
IsScriptFineFor c (Form.Border file region) = ⊤
IsScriptFineFor c (Form.Upgrade old new) = ⊤
IsScriptFineFor c (Form.Dump file dir) = ⊤

-- the words are of a form, what they need is told and fine, and no count of faults rose
pub record IsFine (c : Call) : Type 0 where
  pub asked : Form
  pub form : c.form ≡ Some asked
  pub told : AreTold c.shelf.files_before asked
  pub tables : Rows
  pub served : IsSubject c.shelf.files_before asked tables
  pub script : IsScriptFineFor c asked
  pub no_shelf_fault : ¬ (Rose c.shelf.faults_before c.shelf.faults_after)
  pub no_write_fault : ¬ (Rose c.shelf.write_faults_before c.shelf.write_faults_after)
  pub no_script_fault : ¬ (Rose c.script.faults_before c.script.faults_after)
  pub no_out_fault : ¬ (Rose c.out.faults_before c.out.faults_after)

-- such a call is done, or wants memory
abbrev pub IsComplete : Call → Status → Type 0
IsComplete c s = IsFine c → (s ≡ status.Done) ⊎ (s ≡ status.Memory)

-- what is promised of a call that ends with a status
pub record IsPromised (c : Call) (s : Status) : Type 0 where
  pub says : Says c s
  pub script : IsScriptTaken c s
  pub files : LeavesFiles c s c.form
  pub complete : IsComplete c s
  pub counted : c.steps_before ≤ c.steps_after
