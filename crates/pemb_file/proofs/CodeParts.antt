-- The code of a file's sections.
use Rattle.std.specs.Prelude.{is_none, nat_lt}
use Rattle.std.proofs.Common.{◌≡◌, ℕ, ◌+◌, ◌*◌, Bool, true, ◌&&◌, ◌==◌, List, length, refl, None}
use Rattle.std.proofs.lemmas.Bool.{and_parts}
use Rattle.code_laws.specs.Code.{Code, code_with}
use Rattle.code_laws.specs.SeqFault.{seq_fault, is_sound}
use Rattle.file_laws.specs.Layout.{HeaderCounts, section, sections, face_count, bits_at, fields_at}
use Rattle.file_laws.specs.Held.{contents_of}
use Rattle.file_laws.proofs.Lengths.{none-is_none}

pub code-is : (words : List ℕ) (a b d : List Bool) (s : List ℕ) → a ≡ bits_at words 1 → b ≡ bits_at words 3 → d ≡ bits_at words 6 → s ≡ fields_at words 9 → code_with a b d s ≡ (contents_of words).code
unfolding contents_of
code-is words a b d s e f g h = rw (e, f, g, h) refl

pub sound-none : (c : Code) → is_sound c ≡ true → seq_fault c ≡ None
sound-none c h = none-is_none (seq_fault c) (and_parts (nat_lt 0 (length c.starts) && (length c.tree + length c.dual == length c.a)) (is_none (seq_fault c)) h).1

-- the counts of the code's sections
pub record CodeCounts (c : HeaderCounts) : Type 0 where
  pub a : (section c 1).count ≡ 2 * c.edges
  pub tree : (section c 3).count ≡ 2 * c.tree_edges
  pub dual : (section c 6).count ≡ 2 * face_count c
  pub starts : (section c 9).count ≡ c.components + 1

pub code_counts : (c : HeaderCounts) → CodeCounts c
unfolding section sections
code_counts c = record { a = refl; tree = refl; dual = refl; starts = refl }
