-- Bytes whose digest is not made, and what they are sealed to.
use Rattle.std.specs.Prelude.{ℕ, ◌≡◌, ◌≤◌, List, ◌++◌, None, length, take, drop, IsTrue}
use Rattle.sha2.specs.Sha256.{sha256}
use Rattle.file_laws.specs.Layout.{counts_in, words_of}
use Rattle.file_laws.specs.Held.{contents_of}
use Rattle.file_laws.specs.Faults.{front_fault, count_fault}
use Rattle.file_laws.specs.Lawful.{content_fault, is_lawful}

-- the digest of all bytes behind it, in its place
abbrev pub sealed : List ℕ → List ℕ
sealed bytes = take 16 bytes ++ sha256 (drop 48 bytes) ++ drop 48 bytes

-- nothing is wrong with these bytes, but perhaps their digest
pub record LacksOnlyDigest (bytes : List ℕ) : Type 0 where
  pub front : front_fault bytes ≡ None
  pub counts : count_fault (counts_in (words_of bytes)) ≡ None
  pub content : content_fault (words_of bytes) ≡ None

-- sealed these bytes are a lawful file, which holds what they hold
pub record IsDraft (bytes : List ℕ) : Type 0 where
  pub long : 48 ≤ length bytes
  pub only_digest : LacksOnlyDigest bytes
  pub lawful : IsTrue (is_lawful (sealed bytes))
  pub same : contents_of (words_of (sealed bytes)) ≡ contents_of (words_of bytes)
