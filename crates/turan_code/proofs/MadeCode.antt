-- The words of a code hold the code.
use Rattle.std.proofs.Common.{◌≡◌, ℕ, ◌/◌, Bool, true, false, List, length, ap, sym, ◌∙◌, filter}
use Rattle.bit_words.specs.Bits.{same, bits_in, fields_in}
use Rattle.bit_words.specs.Words.{words_in}
use Rattle.bit_words.proofs.Streams.{bits_in-held}
use Rattle.code_laws.specs.Code.{code_with}
use Rattle.code_laws.specs.Tour.{picked, code_of}
use Rattle.turan_code.specs.declared.making.CodeWords.{CodeWords}
use Rattle.code_laws.proofs.Walked.{length-picked}
use Rattle.turan_code.specs.CodeWords.{AreWordsOf}
use Rattle.turan_code.proofs.Picked.{kind_ranked}

-- as many bits are picked as there are positions of the kind
many_picked : (kind : Bool) (tree first : List Bool) → length tree ≡ length first → length (filter (same kind) tree) ≡ length (picked kind tree first)
many_picked kind tree first e = kind_ranked kind tree ∙ sym (length-picked kind tree first e)

same_code : (a b d a' b' d' : List Bool) (s s' : List ℕ) → a ≡ a' → b ≡ b' → d ≡ d' → s ≡ s' → code_with a b d s ≡ code_with a' b' d' s'
same_code a b d a' b' d' s s' e f g h = cc

pub made_code : (tree first : List Bool) (starts : List ℕ) (words : CodeWords) (a b d : List Bool) (m n : ℕ) (bytes : List ℕ)
    → length tree ≡ length first → AreWordsOf (code_of tree first starts) words
    → a ≡ bits_in words.a.items (length tree) → b ≡ bits_in words.b.items m → d ≡ bits_in words.dual.items n
    → m ≡ length (filter (same true) tree) → n ≡ length (filter (same false) tree)
    → words_in (length bytes / 8) bytes ≡ words.starts.items
    → code_with a b d (fields_in (words_in (length bytes / 8) bytes) (length starts) 32) ≡ code_of tree first starts
made_code tree first starts words a b d m n bytes e h a-is b-is d-is m-is n-is s-is =
    same_code a b d tree (picked true tree first) (picked false tree first) (fields_in (words_in (length bytes / 8) bytes) (length starts) 32) starts
    (a-is ∙ bits_in-held words.a.items tree h.a)
    (b-is ∙ ap (bits_in words.b.items) (m-is ∙ many_picked true tree first e) ∙ bits_in-held words.b.items (picked true tree first) h.b)
    (d-is ∙ ap (bits_in words.dual.items) (n-is ∙ many_picked false tree first e) ∙ bits_in-held words.dual.items (picked false tree first) h.dual)
    (ap (λ ws. fields_in ws (length starts) 32) s-is ∙ h.starts.fields)
