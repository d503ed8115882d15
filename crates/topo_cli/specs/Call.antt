-- What a call of the program begins with and leaves, where that is told.
use Rattle.std.specs.Prelude.{◌≡◌, ℕ, List, Option}
use Rattle.ports.specs.Outside.{Files}
use Rattle.topo_cli.specs.Words.{Form}

-- a shelf before and after
pub record ShelfCall : Type 0 where
  pub files_before : Option Files
  pub files_after : Option Files
  pub misses_before : ℕ
  pub misses_after : ℕ
  pub faults_before : ℕ
  pub faults_after : ℕ
  pub write_faults_before : ℕ
  pub write_faults_after : ℕ

-- a source before and after
pub record SourceCall : Type 0 where
  pub left_before : Option (List ℕ)
  pub left_after : Option (List ℕ)
  pub faults_before : ℕ
  pub faults_after : ℕ

-- a sink before and after
pub record SinkCall : Type 0 where
  pub held_before : Option (List ℕ)
  pub held_after : Option (List ℕ)
  pub faults_before : ℕ
  pub faults_after : ℕ

-- the form of the words, what the call met, and the count of words read
pub record Call : Type 0 where
  pub form : Option Form
  pub shelf : ShelfCall
  pub script : SourceCall
  pub out : SinkCall
  pub steps_before : ℕ
  pub steps_after : ℕ

-- what a shelf, a source and a sink tell of themselves, before and after
abbrev pub shelf_call : {H : Type 0} → (H → Option Files) → (H → ℕ) → (H → ℕ) → (H → ℕ) → H → H → ShelfCall
shelf_call files misses faults write_faults before after =
    record {
      files_before = files before;
      files_after = files after;
      misses_before = misses before;
      misses_after = misses after;
      faults_before = faults before;
      faults_after = faults after;
      write_faults_before = write_faults before;
      write_faults_after = write_faults after;
    }

abbrev pub source_call : {S : Type 0} → (S → Option (List ℕ)) → (S → ℕ) → S → S → SourceCall
source_call left faults before after =
    record { left_before = left before; left_after = left after; faults_before = faults before; faults_after = faults after }

abbrev pub sink_call : {K : Type 0} → (K → Option (List ℕ)) → (K → ℕ) → K → K → SinkCall
sink_call held faults before after =
    record { held_before = held before; held_after = held after; faults_before = faults before; faults_after = faults after }

abbrev pub call_of : Option Form → ShelfCall → SourceCall → SinkCall → ℕ → ℕ → Call
call_of form shelf script out before after =
    record { form = form; shelf = shelf; script = script; out = out; steps_before = before; steps_after = after }

-- a source that was not asked for anything
pub record IsIdle (source : SourceCall) : Type 0 where
  pub left : source.left_after ≡ source.left_before
  pub faults : source.faults_after ≡ source.faults_before

-- a shelf that was not asked for anything
pub record IsUntouched (shelf : ShelfCall) : Type 0 where
  pub files : shelf.files_after ≡ shelf.files_before
  pub misses : shelf.misses_after ≡ shelf.misses_before
  pub faults : shelf.faults_after ≡ shelf.faults_before
  pub write_faults : shelf.write_faults_after ≡ shelf.write_faults_before
