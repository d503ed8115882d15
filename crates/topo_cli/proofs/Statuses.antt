-- What is promised of a call that ends before its work is done.
use Rattle.std.proofs.Common.{◌≡◌, ℕ, ◌≤◌, List, [], refl, sym, Option, Some, None, IfSome, IsSome, Result, Ok, Err, append-nil, subst, ◌∙◌, inl, inr}
use Rattle.std.specs.Prelude.{⊤, string_bytes}
use Rattle.std.specs.Io.KnownBytes.{Appends}
use Rattle.ports.specs.Outside.{Files, Rose, WhereTold}
use Rattle.plane_model.specs.Rows.{Rows}
use Rattle.map_maker.specs.Grid.{grid_of}
use Rattle.topo_cli.specs.Call.{Call}
use Rattle.topo_cli.specs.Words.{Form}
use Rattle.topo_cli.specs.Tables.{Ending, IsNeeded, OnRead, checked, opened, served}
use Rattle.topo_cli.specs.Text.{status_line}
use Rattle.topo_cli.specs.declared.status.Status.{Status}
use Rattle.topo_cli.specs.declared.status.Status.TheVariants as status
use Rattle.topo_cli.specs.declared.load.LoadFault.{LoadFault}
use Rattle.topo_cli.specs.declared.load.LoadFault.TheVariants as fault
use Rattle.topo_cli.specs.Ended.{EndsLoading}
use Rattle.topo_cli.specs.Loading.{IsMet, ShowsInCounts}
use Rattle.topo_cli.specs.Outcome.{ChecksTables, HasForm, HoldsFolder, HoldsFolderPart, HoldsImage, HoldsPart, HoldsUpgrade, HoldsUpgradePart, CameFirst, IsPromised, IsScriptTaken, IsUnread, IsUnreadUnlessServed, KeepsFiles, LeavesFiles, LeavesPart, LeavesWritten, OnSubject, OpensFile, ReadsShelf, ScriptWaits, Wrote, WrotePartOf, most_taken}
use Rattle.topo_cli.proofs.Complete.{promised}
use Rattle.topo_cli.proofs.Taken.{took_nothing}

-- what holds of each value holds where there is one
pub if_some : {X : Type 0} (o : Option X) (P : X → Type 0) → ((x : X) → P x) → IfSome o P
if_some None P h = tt
if_some (Some x) P h = h x

pub if_weaker : {X : Type 0} (o : Option X) (P Q : X → Type 0) → ((x : X) → P x → Q x) → IfSome o P → IfSome o Q
if_weaker None P Q each h = tt
if_weaker (Some x) P Q each h = each x h

-- the same of what is read
pub on_each : (files : Option Files) (k : Form) (P : Result Rows Ending → Type 0) → ((read : Result Rows Ending) → P read) → OnRead files k P
on_each files (Form.Ask dir) P h = if_some files (λ held. P (served held dir)) (λ held. h (served held dir))
on_each files (Form.Build dir file) P h = if_some files (λ held. P (served held dir)) (λ held. h (served held dir))
on_each files (Form.Query file) P h = if_some files (λ held. P (opened held file)) (λ held. h (opened held file))
on_each files (Form.Check file) P h = if_some files (λ held. P (opened held file)) (λ held. h (opened held file))
on_each files (Form.Trial n) P h = h (checked (grid_of n))
on_each files (Form.Hops file from to) P h = if_some files (λ held. P (opened held file)) (λ held. h (opened held file))
on_each files (Form.Border file region) P h = if_some files (λ held. P (opened held file)) (λ held. h (opened held file))
on_each files (Form.Upgrade old new) P h = if_some files (λ held. P (opened held old)) (λ held. h (opened held old))
on_each files (Form.Dump file dir) P h = if_some files (λ held. P (opened held file)) (λ held. h (opened held file))

pub on_weaker : (files : Option Files) (k : Form) (P Q : Result Rows Ending → Type 0) → ((read : Result Rows Ending) → P read → Q read) → OnRead files k P → OnRead files k Q
on_weaker files (Form.Ask dir) P Q each h = if_weaker files (λ held. P (served held dir)) (λ held. Q (served held dir)) (λ held. each (served held dir)) h
on_weaker files (Form.Build dir file) P Q each h = if_weaker files (λ held. P (served held dir)) (λ held. Q (served held dir)) (λ held. each (served held dir)) h
on_weaker files (Form.Query file) P Q each h = if_weaker files (λ held. P (opened held file)) (λ held. Q (opened held file)) (λ held. each (opened held file)) h
on_weaker files (Form.Check file) P Q each h = if_weaker files (λ held. P (opened held file)) (λ held. Q (opened held file)) (λ held. each (opened held file)) h
on_weaker files (Form.Trial n) P Q each h = each (checked (grid_of n)) h
on_weaker files (Form.Hops file from to) P Q each h = if_weaker files (λ held. P (opened held file)) (λ held. Q (opened held file)) (λ held. each (opened held file)) h
on_weaker files (Form.Border file region) P Q each h = if_weaker files (λ held. P (opened held file)) (λ held. Q (opened held file)) (λ held. each (opened held file)) h
on_weaker files (Form.Upgrade old new) P Q each h = if_weaker files (λ held. P (opened held old)) (λ held. Q (opened held old)) (λ held. each (opened held old)) h
on_weaker files (Form.Dump file dir) P Q each h = if_weaker files (λ held. P (opened held file)) (λ held. Q (opened held file)) (λ held. each (opened held file)) h

-- what holds of one outcome holds of what is read where it is that
pub on_same : (files : Option Files) (k : Form) (x : Result Rows Ending) (P : Result Rows Ending → Type 0) → OnRead files k (λ read. read ≡ x) → P x → OnRead files k P
on_same files k x P is h = on_weaker files k (λ read. read ≡ x) P (λ read e. subst P (sym e) h) is

-- facts of the form of the words
pub at_form : (c : Call) (k : Form) (P : Form → Type 0) → c.form ≡ Some k → P k → IfSome c.form P
at_form c k P form h = let Q : Option Form → Type 0 = λ o. IfSome o P in subst Q (sym form) h

pub has_form : (c : Call) (k : Form) (P : Form → Type 0) → c.form ≡ Some k → P k → HasForm P c.form
has_form c k P form h = let Q : Option Form → Type 0 = HasForm P in subst Q (sym form) h

pub some_form : (c : Call) (k : Form) → c.form ≡ Some k → IsSome c.form
some_form c k form = rw form refl

pub no_form : (c : Call) (k : Form) → c.form ≡ Some k → c.form ≡ None → ⊥
no_form c k form none = let differ : ◌≡◌ {A = Option Form} None (Some k) = sym none ∙ form in cc

-- a fact of what comes of the tables or the file that the words name
pub on_subject : (c : Call) (k : Form) (P : Form → Result Rows Ending → Type 0) → c.form ≡ Some k → OnRead c.shelf.files_before k (P k) → OnSubject c P
on_subject c k P form h = at_form c k (λ x. OnRead c.shelf.files_before x (P x)) form h

pub wrote_nothing : (a b : Option (List ℕ)) → b ≡ a → Appends a b []
wrote_nothing a b e = let P : Option (List ℕ) → Type 0 = λ o. Appends a o [] in subst P (sym e) (same a)
  where
    same : (o : Option (List ℕ)) → Appends o o []
    same None = tt
    same (Some xs) = sym (append-nil xs)

-- the script was not asked for anything
pub script_unread : (c : Call) (s : Status) → IsUnread c → IsScriptTaken c s
script_unread c s unread =
    record {
      without_form = λ _. unread;
      waits = if_some c.form (ScriptWaits c) waits;
      few = took_nothing (most_taken s) _ _ unread.left;
    }
  where
    unless : (read : Result Rows Ending) → IsUnreadUnlessServed c read
    unless (Ok t) = tt
    unless (Err e) = unread

    waits : (k : Form) → ScriptWaits c k
    waits (Form.Ask dir) = on_each c.shelf.files_before (Form.Ask dir) (IsUnreadUnlessServed c) unless
    waits (Form.Build dir file) = unread
    waits (Form.Query file) = on_each c.shelf.files_before (Form.Query file) (IsUnreadUnlessServed c) unless
    waits (Form.Check file) = unread
    waits (Form.Trial n) = unread
    waits (Form.Hops file from to) = unread
    waits (Form.Border file region) = unread
    waits (Form.Upgrade old new) = unread
    waits (Form.Dump file dir) = unread

-- statuses after which the files are as before, whatever the words
abbrev pub IsQuiet : Status → Type 0
IsQuiet status.Done = ⊥
IsQuiet status.Usage = ⊤
IsQuiet status.TablesRefused = ⊤
IsQuiet status.FileRefused = ⊤
IsQuiet status.ReadFault = ⊤
IsQuiet status.WriteFault = ⊥
IsQuiet status.Memory = ⊤
IsQuiet status.Missing = ⊤
IsQuiet status.TooLong = ⊤

left_quiet : (c : Call) (k : Form) (Whole Part : Rows → Files → Files → Type 0) (s : Status) → IsQuiet s → KeepsFiles c → LeavesWritten c k Whole Part s
left_quiet c k Whole Part status.Done quiet kept = absurd quiet
left_quiet c k Whole Part status.Usage quiet kept = kept
left_quiet c k Whole Part status.TablesRefused quiet kept = kept
left_quiet c k Whole Part status.FileRefused quiet kept = kept
left_quiet c k Whole Part status.ReadFault quiet kept = kept
left_quiet c k Whole Part status.WriteFault quiet kept = absurd quiet
left_quiet c k Whole Part status.Memory quiet kept = kept
left_quiet c k Whole Part status.Missing quiet kept = kept
left_quiet c k Whole Part status.TooLong quiet kept = kept

pub leaves : (c : Call) (s : Status) (o : Option Form) → IsQuiet s → KeepsFiles c → LeavesFiles c s o
leaves c s None quiet kept = kept
leaves c s (Some (Form.Ask dir)) quiet kept = kept
leaves c s (Some (Form.Build dir file)) quiet kept = left_quiet c (Form.Build dir file) (HoldsImage file) (HoldsPart file) s quiet kept
leaves c s (Some (Form.Query file)) quiet kept = kept
leaves c s (Some (Form.Check file)) quiet kept = kept
leaves c s (Some (Form.Trial n)) quiet kept = kept
leaves c s (Some (Form.Hops file from to)) quiet kept = kept
leaves c s (Some (Form.Border file region)) quiet kept = kept
leaves c s (Some (Form.Upgrade old new)) quiet kept = left_quiet c (Form.Upgrade old new) (HoldsUpgrade old new) (HoldsUpgradePart old new) s quiet kept
leaves c s (Some (Form.Dump file dir)) quiet kept = left_quiet c (Form.Dump file dir) (HoldsFolder dir) (HoldsFolderPart dir) s quiet kept

-- a line of a status could not be written
pub leaves_unwritten : (c : Call) (k : Form) (e : Ending) → c.form ≡ Some k → OnRead c.shelf.files_before k (λ read. read ≡ Err e) → KeepsFiles c → LeavesFiles c status.WriteFault c.form
leaves_unwritten c k e form first kept = let P : Option Form → Type 0 = LeavesFiles c status.WriteFault in subst P (sym form) (left k first)
  where
    left : (k : Form) → OnRead c.shelf.files_before k (λ read. read ≡ Err e) → LeavesFiles c status.WriteFault (Some k)
    left (Form.Ask dir) first = kept
    left (Form.Build dir file) first = on_same c.shelf.files_before (Form.Build dir file) (Err e) (LeavesPart c (HoldsPart file)) first kept
    left (Form.Query file) first = kept
    left (Form.Check file) first = kept
    left (Form.Trial n) first = kept
    left (Form.Hops file from to) first = kept
    left (Form.Border file region) first = kept
    left (Form.Upgrade old new) first = on_same c.shelf.files_before (Form.Upgrade old new) (Err e) (LeavesPart c (HoldsUpgradePart old new)) first kept
    left (Form.Dump file dir) first = on_same c.shelf.files_before (Form.Dump file dir) (Err e) (LeavesPart c (HoldsFolderPart dir)) first kept

-- what loading can fail by, with words of a form
abbrev pub Fits : Form → LoadFault → Type 0
Fits k (fault.Missing name) = IsNeeded k (string_bytes name)
Fits k fault.ReadFault = ReadsShelf k
Fits k fault.TooLong = ReadsShelf k
Fits k (fault.Refused e) = ChecksTables k
Fits k (fault.Unlawful e) = OpensFile k
Fits k fault.Memory = ⊤

-- what such a call met, besides
pub record Early (c : Call) (k : Form) : Type 0 where
  pub form : c.form ≡ Some k
  pub unread : IsUnread c
  pub kept : KeepsFiles c
  pub counted : c.steps_before ≤ c.steps_after

-- a write of the line failed
unwritten : (c : Call) (k : Form) (e : Ending) → Early c k → OnRead c.shelf.files_before k (λ read. read ≡ Err e) → WrotePartOf c k (Err e) → Rose c.out.faults_before c.out.faults_after
    → IsPromised c status.WriteFault
unwritten c k e a first part rose =
    promised c status.WriteFault
    (record {
      cause = inl rose;
      usage = λ none. absurd (no_form c k a.form none);
      wrote = on_subject c k (WrotePartOf c) a.form (on_same c.shelf.files_before k (Err e) (WrotePartOf c k) first part);
    })
    (script_unread c status.WriteFault a.unread) (leaves_unwritten c k e a.form first a.kept) a.counted

-- memory ran out
pub wanting : (c : Call) (k : Form) → Early c k → c.out.held_after ≡ c.out.held_before → IsPromised c status.Memory
wanting c k a same =
    promised c status.Memory (record { form = some_form c k a.form; wrote = wrote_nothing _ _ same; unread = a.unread })
    (script_unread c status.Memory a.unread) (leaves c status.Memory c.form tt a.kept) a.counted

-- what first kept the call from going on
first_is : (c : Call) (k : Form) (e : Ending) → c.form ≡ Some k → OnRead c.shelf.files_before k (λ read. read ≡ Err e) → Wrote c (status_line e) → CameFirst c e
first_is c k e form first wrote = record { wrote = wrote; first = on_subject c k (λ _ read. read ≡ Err e) form first }

-- the tables or the file can't be loaded, and that is told
pub not_loaded : (c : Call) (k : Form) (e : LoadFault) (s : Status) → Early c k → OnRead c.shelf.files_before k (IsMet e) → Fits k e
    → ShowsInCounts e c.shelf.misses_before c.shelf.misses_after c.shelf.faults_before c.shelf.faults_after → EndsLoading e s c.out → IsPromised c s
not_loaded c k (fault.Missing name) s a ends fits shown tells = elim tells [
  | inl written ↦ elim written [
    | inl said ↦ subst (IsPromised c) (sym said.0) (promised c status.Missing (record {
      form = some_form c k a.form;
      cause = shown;
      name = at_form c k (λ x. (n : List ℕ) × IsNeeded x n × CameFirst c (Ending.Missing n)) a.form (string_bytes name, fits, first_is c k (Ending.Missing (string_bytes name)) a.form ends said.1);
      unread = a.unread;
    }) (script_unread c status.Missing a.unread) (leaves c status.Missing c.form tt a.kept) a.counted)
    | inr failed ↦ subst (IsPromised c) (sym failed.0) (unwritten c k (Ending.Missing (string_bytes name)) a ends failed.2 failed.1)
  ]
  | inr silent ↦ subst (IsPromised c) (sym silent.0) (wanting c k a silent.1)
]
not_loaded c k fault.ReadFault s a ends fits shown tells =
    subst (IsPromised c) (sym tells.0) (promised c status.ReadFault (inl (record { rose = shown; form = has_form c k ReadsShelf a.form fits; wrote = wrote_nothing _ _ tells.1; unread = a.unread }))
    (script_unread c status.ReadFault a.unread) (leaves c status.ReadFault c.form tt a.kept) a.counted)
not_loaded c k fault.TooLong s a ends fits shown tells =
    subst (IsPromised c) (sym tells.0) (promised c status.TooLong (inl (record {
      form = has_form c k ReadsShelf a.form fits;
      first = on_subject c k (λ _ read. read ≡ Err Ending.Long) a.form ends;
      wrote = wrote_nothing _ _ tells.1;
      unread = a.unread;
    })) (script_unread c status.TooLong a.unread) (leaves c status.TooLong c.form tt a.kept) a.counted)
not_loaded c k (fault.Refused why) s a ends fits shown tells = elim tells [
  | inl written ↦ elim written [
    | inl said ↦ subst (IsPromised c) (sym said.0) (promised c status.TablesRefused
        (record { form = has_form c k ChecksTables a.form fits; why = (why, first_is c k (Ending.Refused why) a.form ends said.1); unread = a.unread })
        (script_unread c status.TablesRefused a.unread) (leaves c status.TablesRefused c.form tt a.kept) a.counted)
    | inr failed ↦ subst (IsPromised c) (sym failed.0) (unwritten c k (Ending.Refused why) a ends failed.2 failed.1)
  ]
  | inr silent ↦ subst (IsPromised c) (sym silent.0) (wanting c k a silent.1)
]
not_loaded c k (fault.Unlawful why) s a ends fits shown tells = elim tells [
  | inl written ↦ elim written [
    | inl said ↦ subst (IsPromised c) (sym said.0) (promised c status.FileRefused
        (record { form = has_form c k OpensFile a.form fits; why = (why, first_is c k (Ending.Unlawful why) a.form ends said.1); unread = a.unread })
        (script_unread c status.FileRefused a.unread) (leaves c status.FileRefused c.form tt a.kept) a.counted)
    | inr failed ↦ subst (IsPromised c) (sym failed.0) (unwritten c k (Ending.Unlawful why) a ends failed.2 failed.1)
  ]
  | inr silent ↦ subst (IsPromised c) (sym silent.0) (wanting c k a silent.1)
]
not_loaded c k fault.Memory s a ends fits shown tells = subst (IsPromised c) (sym tells.0) (wanting c k a tells.1)

pub told_weaker : (P Q : Files → Files → Type 0) (a b : Option Files) → ((before after : Files) → P before after → Q before after) → WhereTold P a b → WhereTold Q a b
told_weaker P Q None b each h = tt
told_weaker P Q (Some before) None each h = h
told_weaker P Q (Some before) (Some after) each h = each before after h
