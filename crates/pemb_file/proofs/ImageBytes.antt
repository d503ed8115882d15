-- The words of bytes that were made of words.
use Rattle.std.proofs.Common.{◌≡◌, ℕ, suc, ◌+◌, ◌*◌, ◌^◌, ◌<◌, ◌≤◌, List, [], ◌∷◌, ◌++◌, length, get_or, take, drop, refl, ap, sym, ◌∙◌, arith, add-one, append_assoc, length-append, drop-cons}
use Rattle.std.specs.Int.{w64, to_le_bytes, from_le_bytes}
use Rattle.std.proofs.Math.Seq.{take-append_seam, drop-append_seam}
use Rattle.std.proofs.lemmas.List.{append-nil, drop_all, take_all, take-append-drop, length-drop}
use Rattle.std.proofs.lemmas.Nat.{from_le_bytes-to_le_bytes_8}
use Rattle.bit_words.specs.Words.{words_in}
use Rattle.bit_words.proofs.WordLists.{words_in-part, length-words_in}
use Rattle.file_laws.specs.Image.{bytes_of}

-- the bytes of one word
pub bytes_of-cons : (word : ℕ) (words : List ℕ) → bytes_of (word ∷ words) ≡ to_le_bytes w64 word ++ bytes_of words
unfolding bytes_of
bytes_of-cons word words = refl

pub bytes_of-none : bytes_of [] ≡ []
unfolding bytes_of
bytes_of-none = refl

pub length-bytes_of : (words : List ℕ) → length (bytes_of words) ≡ 8 * length words
unfolding bytes_of
length-bytes_of [] = refl
length-bytes_of (word ∷ words) = omega (arith, length-bytes_of words)

pub bytes_of-append : (xs ys : List ℕ) → bytes_of (xs ++ ys) ≡ bytes_of xs ++ bytes_of ys
unfolding bytes_of
bytes_of-append [] ys = refl
bytes_of-append (x ∷ xs) ys = ap (λ bytes. to_le_bytes w64 x ++ bytes) (bytes_of-append xs ys) ∙ sym (append_assoc (to_le_bytes w64 x) (bytes_of xs) (bytes_of ys))

-- the first word is the number in the first eight bytes
first_word : (n : ℕ) (bytes : List ℕ) → words_in (suc n) bytes ≡ from_le_bytes w64 bytes ∷ words_in n (drop 8 bytes)
unfolding words_in
first_word n bytes = ap (λ (w : ℕ). w ∷ words_in n (drop 8 bytes)) (omega arith)

-- the words come back
pub words_in-bytes_of : (words : List ℕ) → ((k : ℕ) → get_or words k 0 < 2 ^ 64) → words_in (length words) (bytes_of words) ≡ words
unfolding words_in bytes_of
words_in-bytes_of [] small = refl
words_in-bytes_of (word ∷ words) small =
    let first : from_le_bytes w64 (to_le_bytes w64 word ++ bytes_of words) ≡ word = from_le_bytes-to_le_bytes_8 word (small 0) in
    let rest : words_in (length words) (bytes_of words) ≡ words = words_in-bytes_of words (λ k. small (suc k)) in
    first_word (length words) (to_le_bytes w64 word ++ bytes_of words) ∙ ap (λ (w : ℕ). w ∷ words_in (length words) (bytes_of words)) first ∙ ap (λ (ws : List ℕ). word ∷ ws) rest

-- whole words of bytes that follow each other
pub words_in-append : (m n : ℕ) (xs ys : List ℕ) → length xs ≡ 8 * m → length ys ≡ 8 * n → words_in (m + n) (xs ++ ys) ≡ words_in m xs ++ words_in n ys
words_in-append m n xs ys e f =
    let bytes = xs ++ ys in
    let long : 8 * (m + n) ≤ length bytes = let l = length-append xs ys in omega arith in
    let first : take (8 * m) (drop (8 * 0) bytes) ≡ xs = rw (← e) (take-append_seam xs ys) in
    let second : take (8 * n) (drop (8 * m) bytes) ≡ ys = rw (← e, drop-append_seam xs ys) (take_all (8 * n) ys (omega arith)) in
    let left : words_in m xs ≡ take m (words_in (m + n) bytes) = ap (words_in m) (sym first) ∙ words_in-part (m + n) 0 m bytes (omega arith) long in
    let rest : length (drop m (words_in (m + n) bytes)) ≤ n = simp (length-drop, length-words_in) (omega arith) in
    let right : words_in n ys ≡ drop m (words_in (m + n) bytes) = ap (words_in n) (sym second) ∙ words_in-part (m + n) m n bytes (omega arith) long ∙ take_all n (drop m (words_in (m + n) bytes)) rest in
    sym (ap (λ front. front ++ words_in n ys) left ∙ ap (λ back. take m (words_in (m + n) bytes) ++ back) right ∙ take-append-drop m (words_in (m + n) bytes))

-- the bytes of one word more
pub one_more : (words : List ℕ) (i : ℕ) (done next all : List ℕ) → i < length words → next ≡ done ++ to_le_bytes w64 (get_or words i 0) → done ++ bytes_of (drop i words) ≡ all → next ++ bytes_of (drop (i + 1) words) ≡ all
one_more words i done next all l e h =
    let split : bytes_of (drop i words) ≡ to_le_bytes w64 (get_or words i 0) ++ bytes_of (drop (i + 1) words) = rw (add-one, drop-cons words i 0) (bytes_of-cons (get_or words i 0) (drop (suc i) words)) in
    ap (λ n. n ++ bytes_of (drop (i + 1) words)) e ∙ append_assoc done (to_le_bytes w64 (get_or words i 0)) (bytes_of (drop (i + 1) words)) ∙ ap (λ rest. done ++ rest) (sym split) ∙ h

pub all_bytes : (words : List ℕ) (i : ℕ) (done all : List ℕ) → length words ≤ i → done ++ bytes_of (drop i words) ≡ all → done ≡ all
all_bytes words i done all l h =
    let none : bytes_of (drop i words) ≡ [] = ap bytes_of (drop_all i words l) ∙ bytes_of-none in
    sym (append-nil done) ∙ ap (λ rest. done ++ rest) (sym none) ∙ h
