-- The sections of a file follow each other without gaps, and fill it.
use Rattle.std.specs.Prelude.{find, unwrap_or, map, not, slice_index}
use Rattle.std.proofs.Common.{◌≡◌, ℕ, zero, suc, ◌+◌, ◌<◌, ◌≤◌, inl, inr, Bool, true, false, ◌&&◌, List, [], ◌∷◌, length, refl, sym, arith, subst, ◌==◌}
use Rattle.std.proofs.lemmas.Bool.{cases_Bool, and_parts, eq-eqb}
use Rattle.file_laws.specs.Layout.{HeaderCounts, Section, sections, section, section_numbers, section_words, total_words, words_before, section_from, file_words, header_words, no_section}

found : ℕ → List Section → Section
found number ss = unwrap_or (find (λ s. s.number == number) ss) no_section

no_words : section_words no_section ≡ 0
unfolding section_words
no_words = refl

-- a section stands within those before it and all
within_all : (number : ℕ) (ss : List Section) → words_before number ss + section_words (found number ss) ≤ total_words ss
unfolding found words_before total_words
within_all number [] = let e = no_words in omega (arith, e)
within_all number (s ∷ ss) =
    let more = within_all number ss in
    elim (cases_Bool (s.number == number)) [
      | inl w ↦ rw w (omega arith)
      | inr f ↦ rw f (omega (arith, more))
    ]

-- no section has this number
absent : ℕ → List Section → Bool
absent number [] = true
absent number (s ∷ ss) = not (number == s.number) && absent number ss

-- no two sections have one number
apart : List Section → Bool
apart [] = true
apart (s ∷ ss) = absent s.number ss && apart ss

numbers_in : List Section → List ℕ
numbers_in ss = map (λ s. s.number) ss

not-true : (b : Bool) → not b ≡ true → b ≡ false
not-true false h = refl
not-true true h = cc

absent_at : (number j : ℕ) (ss : List Section) → absent number ss ≡ true → j < length ss → (number == slice_index (numbers_in ss) j) ≡ false
unfolding absent numbers_in
absent_at number j [] h l = absurd (omega (arith, l))
absent_at number zero (s ∷ ss) h l = not-true _ (and_parts (not (number == s.number)) (absent number ss) h).0
absent_at number (suc j) (s ∷ ss) h l = absent_at number j ss (and_parts (not (number == s.number)) (absent number ss) h).1 (omega (arith, l))

-- the section after the one at a place of the list
next_at : (i : ℕ) (ss : List Section) → apart ss ≡ true → suc i < length ss
    → words_before (slice_index (numbers_in ss) (suc i)) ss ≡ words_before (slice_index (numbers_in ss) i) ss + section_words (found (slice_index (numbers_in ss) i) ss)
unfolding apart numbers_in found words_before
next_at i [] h l = absurd (omega (arith, l))
next_at i (s ∷ []) h l = absurd (omega (arith, l))
next_at zero (s ∷ t ∷ ss) h l =
    let here = and_parts (absent s.number (t ∷ ss)) (apart (t ∷ ss)) h in
    let other : (s.number == t.number) ≡ false = absent_at s.number 0 (t ∷ ss) here.0 (omega arith) in
    let same : (s.number == s.number) ≡ true = eq-eqb s.number s.number refl in
    let first : (t.number == t.number) ≡ true = eq-eqb t.number t.number refl in
    rw (other, same, first) (omega arith)
next_at (suc i) (s ∷ t ∷ ss) h l =
    let here = and_parts (absent s.number (t ∷ ss)) (apart (t ∷ ss)) h in
    let more = next_at i (t ∷ ss) here.1 (omega (arith, l)) in
    let past : (s.number == slice_index (numbers_in (t ∷ ss)) (suc i)) ≡ false = absent_at s.number (suc i) (t ∷ ss) here.0 (omega (arith, l)) in
    let other : (s.number == slice_index (numbers_in (t ∷ ss)) i) ≡ false = absent_at s.number i (t ∷ ss) here.0 (omega (arith, l)) in
    rw (past, other) (omega (arith, more))

pub numbers_are : (c : HeaderCounts) → map (λ s. s.number) (sections c) ≡ section_numbers
unfolding sections
numbers_are c = refl

are_apart : (c : HeaderCounts) → apart (sections c) ≡ true
unfolding apart absent sections
are_apart c = refl

many : (c : HeaderCounts) → length (sections c) ≡ 45
unfolding sections
many c = refl

add-one : (i : ℕ) → i + 1 ≡ suc i
add-one i = omega arith

-- the section after the one at a place of these numbers
next_in : (c : HeaderCounts) (numbers : List ℕ) (i : ℕ) → numbers_in (sections c) ≡ numbers → i < 44
    → section_from c (slice_index numbers (suc i)) ≡ section_from c (slice_index numbers i) + section_words (section c (slice_index numbers i))
unfolding found section section_from
next_in c numbers i e l =
    let n = many c in
    let next = next_at i (sections c) (are_apart c) (omega (arith, n, l)) in
    subst (λ (ns : List ℕ). section_from c (slice_index ns (suc i)) ≡ section_from c (slice_index ns i) + section_words (section c (slice_index ns i))) e (omega (arith, next))

pub section_next : (c : HeaderCounts) (i : ℕ) → i < 44
    → section_from c (slice_index section_numbers (i + 1)) ≡ section_from c (slice_index section_numbers i) + section_words (section c (slice_index section_numbers i))
unfolding numbers_in
section_next c i l =
    subst (λ (k : ℕ). section_from c (slice_index section_numbers k) ≡ section_from c (slice_index section_numbers i) + section_words (section c (slice_index section_numbers i)))
    (sym (add-one i)) (next_in c section_numbers i (numbers_are c) l)

pub section_within : (c : HeaderCounts) (number : ℕ) → section_from c number + section_words (section c number) ≤ file_words c
unfolding found section section_from file_words
section_within c number = let w = within_all number (sections c) in omega (arith, w)

pub section_first : (c : HeaderCounts) → section_from c 1 ≡ header_words
unfolding section_from words_before sections
section_first c = refl

pub section_last : (c : HeaderCounts) → section_from c 25 + section_words (section c 25) ≡ file_words c
unfolding section section_from file_words words_before total_words sections
section_last c = omega arith
