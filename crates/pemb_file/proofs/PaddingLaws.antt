-- The first section that is not padded.
use Rattle.std.specs.Prelude.{option_map}
use Rattle.std.proofs.Common.{◌≡◌, ℕ, ◌+◌, ◌/◌, ◌%◌, ◌<◌, ◌≤◌, true, false, List, length, drop, get_or, refl, ap, sym, ◌∙◌, arith, Option, Some, None}
use Rattle.std.proofs.lemmas.List.{at_drop_more}
use Rattle.file_laws.specs.Layout.{Section, sections, section_bits, section_words, counts_in}
use Rattle.file_laws.specs.Faults.{is_padded, padding_from, padding_fault}
use Rattle.file_laws.specs.declared.fault.FileFault.TheVariants as fault
use Rattle.pemb_file.specs.declared.section.Section.{Section as Held}
use Rattle.pemb_file.specs.Section.{seen, all_seen}
use Rattle.pemb_file.proofs.SectionWalk.{drop-past}

-- what the sections from one on say
abbrev pub padding_rest : List ℕ → ℕ → List Held → Option ℕ
padding_rest words from items = padding_from words from (all_seen items)

pub pad-next : (words : List ℕ) (from : ℕ) (items : List Held) (i : ℕ) (d : Held) → i < length items → is_padded (drop from words) (section_bits (seen (get_or items i d))) ≡ true
    → padding_rest words from (drop i items) ≡ padding_rest words (from + section_words (seen (get_or items i d))) (drop (i + 1) items)
unfolding padding_from
pad-next words from items i d l h = at_drop_more (padding_rest words from) items i d l ∙ rw h refl

pub pad-not : (words : List ℕ) (from : ℕ) (items : List Held) (i : ℕ) (d : Held) → i < length items → is_padded (drop from words) (section_bits (seen (get_or items i d))) ≡ false
    → padding_rest words from (drop i items) ≡ Some (from + section_bits (seen (get_or items i d)) / 64)
unfolding padding_from
pad-not words from items i d l h = at_drop_more (padding_rest words from) items i d l ∙ rw h refl

pub pad-end : (words : List ℕ) (from : ℕ) (items : List Held) (i : ℕ) → i ≤ length items → length items ≤ i → padding_rest words from (drop i items) ≡ None
unfolding padding_from
pad-end words from items i a b = ap (padding_rest words from) (drop-past items i a b)

-- the fault, by what is left
pub padding-is : (words : List ℕ) (items : List Held) (from i : ℕ) (o : Option ℕ) → all_seen items ≡ sections (counts_in words)
    → padding_rest words from (drop i items) ≡ padding_rest words 15 items → padding_rest words from (drop i items) ≡ o → padding_fault words ≡ option_map fault.Padding o
unfolding padding_fault
padding-is words items from i o are rest h = ap (option_map fault.Padding) (ap (padding_from words 15) (sym are) ∙ sym rest ∙ h)

pub last-word : (s : Section) → section_bits s / 64 ≤ section_words s
unfolding section_words
last-word s = omega arith

pub last-bits : (s : Section) → 0 < section_bits s % 64 → section_bits s / 64 < section_words s
unfolding section_words
last-bits s some = omega (arith, some)
