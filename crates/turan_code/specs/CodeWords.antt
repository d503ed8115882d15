-- The words of a code.
use Rattle.std.specs.Prelude.{ℕ, ◌≡◌, List, length}
use Rattle.bit_words.specs.Bits.{HoldsBits, fields_in}
use Rattle.bit_words.specs.Packed.{Packs}
use Rattle.rank_select.specs.Counts.{counts_of}
use Rattle.min_max_tree.specs.Tree.{nodes_of}
use Rattle.code_laws.specs.Code.{Code}
use Rattle.turan_code.specs.declared.making.CodeWords.{CodeWords}

-- these words hold these numbers, by 32 bits each, and no other bit is 1
pub record HoldsFields (words items : List ℕ) : Type 0 where
  pub packs : Packs words (length items) 32
  pub fields : fields_in words (length items) 32 ≡ items

-- the sequences of a code in words, with their counts and trees, and the starts
pub record AreWordsOf (c : Code) (words : CodeWords) : Type 0 where
  pub a : HoldsBits words.a.items c.a
  pub a_counts : HoldsFields words.a_counts.items (counts_of c.a)
  pub b : HoldsBits words.b.items c.tree
  pub b_counts : HoldsFields words.b_counts.items (counts_of c.tree)
  pub b_tree : words.b_tree.items ≡ nodes_of c.tree
  pub dual : HoldsBits words.dual.items c.dual
  pub dual_counts : HoldsFields words.dual_counts.items (counts_of c.dual)
  pub dual_tree : words.dual_tree.items ≡ nodes_of c.dual
  pub starts : HoldsFields words.starts.items c.starts
