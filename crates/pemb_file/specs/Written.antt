-- How bytes grow by sections, and what is written.
use Rattle.std.specs.Prelude.{ℕ, ◌≡◌, ◌<◌, ◌≤◌, ◌^◌, None, List, [], ◌∷◌, ◌++◌, flat_map, length, slice_index}
use Rattle.std.specs.Bool.{⊤}
use Rattle.bit_words.specs.Bits.{HoldsBits}
use Rattle.rank_select.specs.Counts.{counts_of}
use Rattle.id_names.specs.Names.{AreDistinctIds}
use Rattle.id_names.specs.RisingNames.{ids_by_number}
use Rattle.id_names.specs.Faults.{name_fault}
use Rattle.id_names.specs.Making.{HoldsFields, place_width}
use Rattle.id_names.specs.declared.making.NameWords.{NameWords}
use Rattle.file_laws.specs.Layout.{HeaderCounts, id_bits, low_width}
use Rattle.file_laws.specs.Contents.{Contents}
use Rattle.file_laws.specs.Faults.{magic}
use Rattle.file_laws.specs.Image.{Filled, words_of_filled, bytes_of, names_for, counts_words}
use Rattle.pemb_file.specs.declared.writing.AllNames.{AllNames}

-- each number of a section has its width
abbrev pub AllFit : List Filled → Type 0
AllFit [] = ⊤
AllFit (f ∷ more) = ((k : ℕ) → slice_index f.items k < 2 ^ f.width) × AllFit more

-- the new bytes are the old ones and these sections behind them
pub record Written (old new : List ℕ) (fs : List Filled) : Type 0 where
  pub bytes : new ≡ old ++ bytes_of (flat_map words_of_filled fs)
  pub fit : AllFit fs

-- a header with 0 in place of the digest
abbrev pub blank_header : HeaderCounts → List ℕ
blank_header h = magic ∷ h.form ∷ 0 ∷ 0 ∷ 0 ∷ 0 ∷ counts_words h

-- ids that a file of a form has room for, and the names that are made of them: without fault, and with the ids back
pub record AreNamed (form : ℕ) (ids : List ℕ) : Type 0 where
  pub few : length ids ≤ 16777216
  pub distinct : AreDistinctIds (2 ^ id_bits form) ids
  pub right : name_fault (names_for form ids) (counts_of (names_for form ids).high) (counts_of (names_for form ids).marks) ≡ None
  pub same : ids_by_number (names_for form ids) ≡ ids

-- the words of the names that are made of these ids in a form
pub record HoldNames (form : ℕ) (ids : List ℕ) (words : NameWords) : Type 0 where
  pub named : AreNamed form ids
  pub high : HoldsBits words.high.items (names_for form ids).high
  pub high_counts : HoldsFields words.high_counts.items 32 (counts_of (names_for form ids).high)
  pub lows : HoldsFields words.lows.items (low_width form (length ids)) (names_for form ids).lows
  pub places : HoldsFields words.places.items (place_width (length ids)) (names_for form ids).places
  pub marks : HoldsBits words.marks.items (names_for form ids).marks
  pub mark_counts : HoldsFields words.mark_counts.items 32 (counts_of (names_for form ids).marks)
  pub back : HoldsFields words.back.items (place_width (length ids)) (names_for form ids).back
  pub marked : words.marked ≡ length (names_for form ids).back

-- the same of each class of contents
pub record HoldAllNames (form : ℕ) (c : Contents) (names : AllNames) : Type 0 where
  pub nodes : HoldNames form c.nodes names.nodes
  pub edges : HoldNames form c.edges names.edges
  pub faces : HoldNames form c.faces names.faces
  pub regions : HoldNames form c.regions names.regions
