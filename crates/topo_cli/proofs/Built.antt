-- What is promised of `build`, of `check`, of `trial` and of words of no form, exit by exit.
use Rattle.std.proofs.Common.{◌≡◌, ℕ, ◌+◌, ◌≤◌, List, [], ◌∷◌, length, refl, sym, subst, append-nil, Ok, Option, Some, None, IfSome, IsTrue, inl, inr}
use Rattle.plane_model.specs.Rows.{Rows}
use Rattle.plane_model.specs.PlaneMap.{PlaneMap, map_of}
use Rattle.plane_model.specs.Consistent.{is_consistent}
use Rattle.plane_model.specs.Texts.{table_text}
use Rattle.topo_base.specs.declared.refusal.Table.TheVariants as table
use Rattle.ports.specs.Outside.{Files, Rose, WhereTold, Holds, HoldsFront}
use Rattle.topo_cli.specs.declared.status.Status.{Status}
use Rattle.topo_cli.specs.declared.status.Status.TheVariants as status
use Rattle.topo_cli.specs.declared.load.LoadFault.{LoadFault}
use Rattle.topo_cli.specs.declared.load.LoadFault.TheVariants as fault
use Rattle.topo_cli.specs.Words.{Form, node_table, edge_table, face_table, region_table, member_table}
use Rattle.topo_cli.specs.Call.{Call, ShelfCall, SinkCall, SourceCall, call_of}
use Rattle.file_laws.specs.Lawful.{is_lawful}
use Rattle.file_parts.specs.Upgrade.{IsUpgradeOf}
use Rattle.table_dump.specs.Dumped.{AreWritten, AreWrittenInPart}
use Rattle.table_dump.specs.Prices.{most_dump_words}
use Rattle.topo_cli.specs.Files.{IsWhole}
use Rattle.topo_cli.specs.Tables.{Ending, IsNeeded, IsSubject, OnRead}
use Rattle.topo_cli.specs.Text.{built_line, dumped_line, status_line, upgraded_line}
use Rattle.topo_cli.specs.Ended.{IsTold}
use Rattle.topo_cli.specs.Loading.{NamesFile, NamesNeeded, NamesNothing}
use Rattle.topo_cli.specs.Outcome.{Finished, FinishedPart, HoldsFolder, HoldsFolderPart, HoldsImage, HoldsPart, HoldsPartOfSuch, HoldsSuch, HoldsUpgrade, HoldsUpgradePart, IsImageOf, IsPromised, IsUnread, IsUpgrade, KeepsFiles, LeavesFiles, LeavesPart, LeavesWhole, OpensFile, ReadsShelf, WritesFile, Wrote, WrotePart, WrotePartOf, folder_of, words_of_built, words_to_open}
use Rattle.topo_cli.proofs.Complete.{promised}
use Rattle.topo_cli.proofs.Served.{has_tables}
use Rattle.topo_cli.proofs.Statuses.{Fits, at_form, has_form, leaves, no_form, on_same, on_subject, script_unread, some_form, told_weaker, wrote_nothing}

pub fits_ask : (dir : List ℕ) (e : LoadFault) → NamesNeeded dir e → Fits (Form.Ask dir) e
fits_ask dir (fault.Missing name) named = named
fits_ask dir fault.ReadFault named = tt
fits_ask dir fault.TooLong named = tt
fits_ask dir (fault.Refused e) named = tt
fits_ask dir (fault.Unlawful e) named = absurd named
fits_ask dir fault.Memory named = tt

pub fits_build : (dir file : List ℕ) (e : LoadFault) → NamesNeeded dir e → Fits (Form.Build dir file) e
fits_build dir file (fault.Missing name) named = named
fits_build dir file fault.ReadFault named = tt
fits_build dir file fault.TooLong named = tt
fits_build dir file (fault.Refused e) named = tt
fits_build dir file (fault.Unlawful e) named = absurd named
fits_build dir file fault.Memory named = tt

-- a form that opens this file
pub fits_file : (k : Form) (file : List ℕ) (e : LoadFault) → OpensFile k → ReadsShelf k → IsNeeded k file → NamesFile file e → Fits k e
fits_file k file (fault.Missing name) opens reads needs named = subst (IsNeeded k) (sym named) needs
fits_file k file fault.ReadFault opens reads needs named = reads
fits_file k file fault.TooLong opens reads needs named = reads
fits_file k file (fault.Refused e) opens reads needs named = absurd named
fits_file k file (fault.Unlawful e) opens reads needs named = opens
fits_file k file fault.Memory opens reads needs named = tt

pub fits_trial : (n : ℕ) (e : LoadFault) → NamesNothing e → Fits (Form.Trial n) e
fits_trial n (fault.Missing name) named = absurd named
fits_trial n fault.ReadFault named = absurd named
fits_trial n fault.TooLong named = absurd named
fits_trial n (fault.Refused e) named = tt
fits_trial n (fault.Unlawful e) named = absurd named
fits_trial n fault.Memory named = tt

-- the tables of a form are consistent, and its text is at hand
pub record Telling (c : Call) (k : Form) (t : Rows) : Type 0 where
  pub form : c.form ≡ Some k
  pub are : IsSubject c.shelf.files_before k t
  pub consistent : IsTrue (is_consistent t)
  pub unread : IsUnread c
  pub grows : c.steps_before ≤ c.steps_after

-- the text was written, or was not
pub told : (c : Call) (k : Form) (t : Rows) (text : List ℕ) (s : Status) → Telling c k t → (Wrote c text → Finished c t k) → (WrotePart c text → FinishedPart c t k)
    → LeavesFiles c status.Done (Some k) → LeavesFiles c status.WriteFault (Some k) → IsTold text status.Done s c.out → IsPromised c s
told c k t text s a whole part left_done left_fault tells = elim tells [
  | inl said ↦ subst (IsPromised c) (sym said.0) (promised c status.Done
      (record {
        form = some_form c k a.form;
        finished = has_tables c k t (λ u. IfSome c.form (Finished c u)) a.form a.are a.consistent (at_form c k (Finished c t) a.form (whole said.1));
      })
      (script_unread c status.Done a.unread) (let P : Option Form → Type 0 = LeavesFiles c status.Done in subst P (sym a.form) left_done) a.grows)
  | inr failed ↦ subst (IsPromised c) (sym failed.0) (promised c status.WriteFault
      (record {
        cause = inl failed.1;
        usage = λ none. absurd (no_form c k a.form none);
        wrote = on_subject c k (WrotePartOf c) a.form (on_same c.shelf.files_before k (Ok t) (WrotePartOf c k) a.are (part failed.2));
      })
      (script_unread c status.WriteFault a.unread) (let P : Option Form → Type 0 = LeavesFiles c status.WriteFault in subst P (sym a.form) left_fault) a.grows)
]

-- what a write left of an image such as this
such_held : (IsSuch : List ℕ → Type 0) (file image : List ℕ) → IsSuch image → (before after : Files) → Holds file image before after → HoldsSuch IsSuch file before after
such_held IsSuch file image is before after h = record { image = image; is = is; held = h.held; others = h.others }

such_whole : (IsSuch : List ℕ → Type 0) (file image : List ℕ) → IsSuch image → (before after : Files) → Holds file image before after → HoldsPartOfSuch IsSuch file before after
such_whole IsSuch file image is before after h = record { image = image; is = is; held = inr (inr (image, [], append-nil image, h.held)); others = h.others }

such_part : (IsSuch : List ℕ → Type 0) (file image : List ℕ) → IsSuch image → (before after : Files) → HoldsFront file image before after → HoldsPartOfSuch IsSuch file before after
such_part IsSuch file image is before after h = record { image = image; is = is; held = h.held; others = h.others }

-- it was written: what is left by a finished command, and by one whose line was not written
left_done : (c : Call) (k : Form) (t : Rows) (Whole : Rows → Files → Files → Type 0) → IsSubject c.shelf.files_before k t → WhereTold (Whole t) c.shelf.files_before c.shelf.files_after
    → OnRead c.shelf.files_before k (LeavesWhole c Whole)
left_done c k t Whole are held = on_same c.shelf.files_before k (Ok t) (LeavesWhole c Whole) are held

left_fault : (c : Call) (k : Form) (t : Rows) (Part : Rows → Files → Files → Type 0) → IsSubject c.shelf.files_before k t → WhereTold (Part t) c.shelf.files_before c.shelf.files_after
    → OnRead c.shelf.files_before k (LeavesPart c Part)
left_fault c k t Part are held = on_same c.shelf.files_before k (Ok t) (LeavesPart c Part) are held

-- the image was written, and the line was, or was not
pub built : (c : Call) (dir file : List ℕ) (t : Rows) (image : List ℕ) (s : Status) → Telling c (Form.Build dir file) t → IsImageOf t image → c.steps_after ≤ c.steps_before + words_of_built
    → WhereTold (Holds file image) c.shelf.files_before c.shelf.files_after → IsTold (built_line (map_of t)) status.Done s c.out → IsPromised c s
built c dir file t image s a is most held tells =
    told c (Form.Build dir file) t (built_line (map_of t)) s a (λ wrote. record { wrote = wrote; most = most }) (λ part. part)
    (left_done c (Form.Build dir file) t (HoldsImage file) a.are (told_weaker (Holds file image) (HoldsImage file t) c.shelf.files_before c.shelf.files_after (such_held (IsImageOf t) file image is) held))
    (left_fault c (Form.Build dir file) t (HoldsPart file) a.are (told_weaker (Holds file image) (HoldsPart file t) c.shelf.files_before c.shelf.files_after (such_whole (IsImageOf t) file image is) held))
    tells

-- what a command writes was not written, or not whole
pub not_written : (c : Call) (k : Form) (t : Rows) → Telling c k t → WritesFile k → LeavesFiles c status.WriteFault (Some k) → FinishedPart c t k
    → Rose c.shelf.write_faults_before c.shelf.write_faults_after → c.out.held_after ≡ c.out.held_before → IsPromised c status.WriteFault
not_written c k t a writes left part rose same =
    promised c status.WriteFault
    (record {
      cause = inr (record {
        rose = rose;
        form = has_form c k WritesFile a.form writes;
        consistent = has_tables c k t _ a.form a.are a.consistent tt;
        wrote = wrote_nothing _ _ same;
      });
      usage = λ none. absurd (no_form c k a.form none);
      wrote = on_subject c k (WrotePartOf c) a.form (on_same c.shelf.files_before k (Ok t) (WrotePartOf c k) a.are part);
    })
    (script_unread c status.WriteFault a.unread)
    (let P : Option Form → Type 0 = LeavesFiles c status.WriteFault in subst P (sym a.form) left)
    a.grows

-- tables that are all written are written up to the last, and that one whole
folder_whole : (dir : List ℕ) (m : PlaneMap) (before after : Files) → AreWritten (folder_of dir m) before after → AreWrittenInPart (folder_of dir m) before after
folder_whole dir m before after h =
    record {
      done =
          record { name = node_table dir; bytes = table_text m table.Node }
          ∷ record { name = edge_table dir; bytes = table_text m table.Edge }
          ∷ record { name = face_table dir; bytes = table_text m table.Face }
          ∷ record { name = region_table dir; bytes = table_text m table.Region }
          ∷ [];
      at = record { name = member_table dir; bytes = table_text m table.Member };
      more = [];
      order = refl;
      held = (h.held.0, (h.held.1.0, (h.held.1.1.0, (h.held.1.1.1.0, tt))));
      part = inr (inr (table_text m table.Member, [], append-nil (table_text m table.Member), h.held.1.1.1.1.0));
      others = h.others;
    }

-- nothing of a line was written
no_part : (c : Call) (text : List ℕ) → c.out.held_after ≡ c.out.held_before → WrotePart c text
no_part c text same = ([], text, refl, wrote_nothing _ _ same)

pub image_unwritten : (c : Call) (dir file : List ℕ) (t : Rows) (image : List ℕ) → Telling c (Form.Build dir file) t → IsImageOf t image → WhereTold (HoldsFront file image) c.shelf.files_before c.shelf.files_after
    → Rose c.shelf.write_faults_before c.shelf.write_faults_after → c.out.held_after ≡ c.out.held_before → IsPromised c status.WriteFault
image_unwritten c dir file t image a is held rose same =
    not_written c (Form.Build dir file) t a tt
    (left_fault c (Form.Build dir file) t (HoldsPart file) a.are (told_weaker (HoldsFront file image) (HoldsPart file t) c.shelf.files_before c.shelf.files_after (such_part (IsImageOf t) file image is) held))
    (no_part c (built_line (map_of t)) same) rose same

-- what a write of an upgrade left, of what the old name held
upgrade_left : (P : List ℕ → Files → Files → Type 0) (Q : (List ℕ → Type 0) → Files → Files → Type 0) (old image bytes : List ℕ) (before after : Option Files)
    → ((IsSuch : List ℕ → Type 0) → IsSuch image → (b a : Files) → P image b a → Q IsSuch b a)
    → IsWhole before old bytes → IsTrue (is_lawful bytes) → IsUpgradeOf bytes image → WhereTold (P image) before after → WhereTold (λ b a. Q (IsUpgrade b old) b a) before after
upgrade_left P Q old image bytes None after each whole lawful is h = tt
upgrade_left P Q old image bytes (Some before) None each whole lawful is h = h
upgrade_left P Q old image bytes (Some before) (Some after) each whole lawful is h = each (IsUpgrade before old) (record { bytes = bytes; held = whole; lawful = lawful; is = is }) before after h

-- what an upgrade has at hand before it writes
pub record Upgrading (c : Call) (old new : List ℕ) (t : Rows) (bytes image : List ℕ) : Type 0 where
  pub telling : Telling c (Form.Upgrade old new) t
  pub whole : IsWhole c.shelf.files_before old bytes
  pub lawful : IsTrue (is_lawful bytes)
  pub is : IsUpgradeOf bytes image

-- the file was written, and the line was, or was not
pub upgraded : (c : Call) (old new : List ℕ) (t : Rows) (bytes image : List ℕ) (s : Status) → Upgrading c old new t bytes image
    → WhereTold (Holds new image) c.shelf.files_before c.shelf.files_after → IsTold (upgraded_line (map_of t)) status.Done s c.out → IsPromised c s
upgraded c old new t bytes image s u held tells =
    told c (Form.Upgrade old new) t (upgraded_line (map_of t)) s u.telling (λ wrote. wrote) (λ part. part)
    (left_done c (Form.Upgrade old new) t (HoldsUpgrade old new) u.telling.are
    (upgrade_left (Holds new) (λ P. HoldsSuch P new) old image bytes c.shelf.files_before c.shelf.files_after (λ P. such_held P new image) u.whole u.lawful u.is held))
    (left_fault c (Form.Upgrade old new) t (HoldsUpgradePart old new) u.telling.are
    (upgrade_left (Holds new) (λ P. HoldsPartOfSuch P new) old image bytes c.shelf.files_before c.shelf.files_after (λ P. such_whole P new image) u.whole u.lawful u.is held))
    tells

-- the file was not written, or not whole
pub upgrade_unwritten : (c : Call) (old new : List ℕ) (t : Rows) (bytes image : List ℕ) → Upgrading c old new t bytes image
    → WhereTold (HoldsFront new image) c.shelf.files_before c.shelf.files_after → Rose c.shelf.write_faults_before c.shelf.write_faults_after → c.out.held_after ≡ c.out.held_before
    → IsPromised c status.WriteFault
upgrade_unwritten c old new t bytes image u held rose same =
    not_written c (Form.Upgrade old new) t u.telling tt
    (left_fault c (Form.Upgrade old new) t (HoldsUpgradePart old new) u.telling.are
    (upgrade_left (HoldsFront new) (λ P. HoldsPartOfSuch P new) old image bytes c.shelf.files_before c.shelf.files_after (λ P. such_part P new image) u.whole u.lawful u.is held))
    (no_part c (upgraded_line (map_of t)) same) rose same

-- the tables were written, and the line was, or was not
pub dumped : (c : Call) (file dir : List ℕ) (t : Rows) (s : Status) → Telling c (Form.Dump file dir) t → c.steps_before + length (map_of t).edges.keys ≤ c.steps_after
    → c.steps_after ≤ c.steps_before + words_to_open (map_of t) + most_dump_words (map_of t)
    → WhereTold (HoldsFolder dir t) c.shelf.files_before c.shelf.files_after → IsTold (dumped_line (map_of t)) status.Done s c.out → IsPromised c s
dumped c file dir t s a least most held tells =
    told c (Form.Dump file dir) t (dumped_line (map_of t)) s a (λ wrote. record { wrote = wrote; least = least; most = most }) (λ part. part)
    (left_done c (Form.Dump file dir) t (HoldsFolder dir) a.are held)
    (left_fault c (Form.Dump file dir) t (HoldsFolderPart dir) a.are
    (told_weaker (HoldsFolder dir t) (HoldsFolderPart dir t) c.shelf.files_before c.shelf.files_after (folder_whole dir (map_of t)) held))
    tells

-- a table was not written, or not whole
pub dump_unwritten : (c : Call) (file dir : List ℕ) (t : Rows) → Telling c (Form.Dump file dir) t → WhereTold (HoldsFolderPart dir t) c.shelf.files_before c.shelf.files_after
    → Rose c.shelf.write_faults_before c.shelf.write_faults_after → c.out.held_after ≡ c.out.held_before → IsPromised c status.WriteFault
dump_unwritten c file dir t a held rose same =
    not_written c (Form.Dump file dir) t a tt (left_fault c (Form.Dump file dir) t (HoldsFolderPart dir) a.are held) (no_part c (dumped_line (map_of t)) same) rose same

-- the words are of no form
pub usage_told : (c : Call) (s : Status) → c.form ≡ None → IsUnread c → KeepsFiles c → c.steps_before ≤ c.steps_after → IsTold (status_line Ending.NoForm) status.Usage s c.out → IsPromised c s
usage_told c s none unread kept grows tells = elim tells [
  | inl said ↦ subst (IsPromised c) (sym said.0)
      (promised c status.Usage (record { form = none; wrote = said.1; unread = unread }) (script_unread c status.Usage unread) (leaves c status.Usage c.form tt kept) grows)
  | inr failed ↦ subst (IsPromised c) (sym failed.0) (promised c status.WriteFault
      (record { cause = inl failed.1; usage = λ _. failed.2; wrote = let P : Option Form → Type 0 = λ o. IfSome o (λ k. OnRead c.shelf.files_before k (WrotePartOf c k)) in subst P (sym none) tt })
      (script_unread c status.WriteFault unread) (let P : Option Form → Type 0 = LeavesFiles c status.WriteFault in subst P (sym none) kept) grows)
]

-- what is promised of a call whose words are of a form
pub of_form : (o p : Option Form) (shelf : ShelfCall) (script : SourceCall) (out : SinkCall) (before after : ℕ) (s : Status) → o ≡ p
    → IsPromised (call_of o shelf script out before after) s → IsPromised (call_of p shelf script out before after) s
of_form o p shelf script out before after s is h = let P : Option Form → Type 0 = λ x. IsPromised (call_of x shelf script out before after) s in subst P is h

-- what a write left, told of the files before the tables were read
pub written_since : (seen image : List ℕ) (first before after : Option Files) (P : List ℕ → Files → Files → Type 0) → seen ≡ image → before ≡ first → WhereTold (P seen) before after → WhereTold (P image) first after
written_since seen image first before after P same kept h =
    let Q : List ℕ → Type 0 = λ x. WhereTold (P x) before after in
    let R : Option Files → Type 0 = λ o. WhereTold (P image) o after in
    subst R kept (subst Q same h)

pub rose_since : (first before after : ℕ) → before ≡ first → Rose before after → Rose first after
rose_since first before after kept h = let P : ℕ → Type 0 = λ n. Rose n after in subst P kept h
