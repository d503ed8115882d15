-- Words as bytes, the lowest byte of each first, and the words back.
use Rattle.std.proofs.Common.{◌≡◌, ℕ, suc, ◌+◌, ◌*◌, ◌/◌, ◌^◌, ◌<◌, ◌≤◌, List, [], ◌∷◌, ◌++◌, length, get_or, drop, refl, ap, sym, ◌∙◌, arith, add-one, append_assoc, drop-cons}
use Rattle.std.proofs.lemmas.List.{append-nil, drop_all}
use Rattle.std.specs.Int.{w64, to_le_bytes, from_le_bytes}
use Rattle.std.proofs.lemmas.Nat.{from_le_bytes-to_le_bytes_8}
use Rattle.bit_words.specs.Words.{words_in}

unfoldable pub word_bytes : List ℕ → List ℕ
word_bytes [] = []
word_bytes (word ∷ words) = to_le_bytes w64 word ++ word_bytes words

-- the first word is the number in the first eight bytes
first_word : (n : ℕ) (bytes : List ℕ) → words_in (suc n) bytes ≡ from_le_bytes w64 bytes ∷ words_in n (drop 8 bytes)
unfolding words_in
first_word n bytes = ap (λ (w : ℕ). w ∷ words_in n (drop 8 bytes)) (omega arith)

pub length-word_bytes : (words : List ℕ) → length (word_bytes words) ≡ 8 * length words
unfolding word_bytes
length-word_bytes [] = refl
length-word_bytes (word ∷ words) = omega (arith, length-word_bytes words)

pub words_in-word_bytes : (words : List ℕ) → ((k : ℕ) → get_or words k 0 < 2 ^ 64) → words_in (length words) (word_bytes words) ≡ words
unfolding words_in word_bytes
words_in-word_bytes [] fits = refl
words_in-word_bytes (word ∷ words) fits =
    let first : from_le_bytes w64 (to_le_bytes w64 word ++ word_bytes words) ≡ word = from_le_bytes-to_le_bytes_8 word (fits 0) in
    let rest : words_in (length words) (word_bytes words) ≡ words = words_in-word_bytes words (λ k. fits (suc k)) in
    first_word (length words) (to_le_bytes w64 word ++ word_bytes words) ∙ ap (λ (w : ℕ). w ∷ words_in (length words) (word_bytes words)) first ∙ ap (λ (ws : List ℕ). word ∷ ws) rest

pub words_back : (bytes words : List ℕ) → ((k : ℕ) → get_or words k 0 < 2 ^ 64) → bytes ≡ word_bytes words → words_in (length bytes / 8) bytes ≡ words
words_back bytes words fits e =
    let size : length bytes / 8 ≡ length words = let l = length-word_bytes words in let m = ap length e in omega (arith, l, m) in
    ap (λ n. words_in n bytes) size ∙ ap (words_in (length words)) e ∙ words_in-word_bytes words fits

-- a loop that puts the bytes of one word more
pub one_more : (words : List ℕ) (i : ℕ) (done next : List ℕ) → i < length words → next ≡ done ++ to_le_bytes w64 (get_or words i 0) → done ++ word_bytes (drop i words) ≡ word_bytes words → next ++ word_bytes (drop (i + 1) words) ≡ word_bytes words
unfolding word_bytes
one_more words i done next l e h =
    let split : word_bytes (drop i words) ≡ to_le_bytes w64 (get_or words i 0) ++ word_bytes (drop (i + 1) words) = rw (add-one, drop-cons words i 0) refl in
    ap (λ n. n ++ word_bytes (drop (i + 1) words)) e ∙ append_assoc done (to_le_bytes w64 (get_or words i 0)) (word_bytes (drop (i + 1) words)) ∙ ap (λ rest. done ++ rest) (sym split) ∙ h

pub all_done : (words : List ℕ) (i : ℕ) (done : List ℕ) → length words ≤ i → done ++ word_bytes (drop i words) ≡ word_bytes words → done ≡ word_bytes words
unfolding word_bytes
all_done words i done l h =
    let none : word_bytes (drop i words) ≡ [] = ap word_bytes (drop_all i words l) in
    sym (append-nil done) ∙ ap (λ rest. done ++ rest) (sym none) ∙ h
