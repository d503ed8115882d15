-- Sections one after another: what the rest of them says.
use Rattle.std.specs.Prelude.{find, unwrap_or}
use Rattle.std.proofs.Common.{◌≡◌, ◌≢◌, ℕ, ◌+◌, ◌<◌, ◌≤◌, List, [], length, get_or, drop, refl, ap, sym, ◌∙◌, ◌==◌, arith}
use Rattle.std.proofs.Math.Seq.{drop-length}
use Rattle.std.proofs.lemmas.List.{at_drop_more, length-map}
use Rattle.std.proofs.lemmas.Bool.{eq-eqb, ne_eqb}
use Rattle.file_laws.specs.Layout.{HeaderCounts, Section, sections, section, section_from, file_words, section_words, total_words, words_before, no_section}
use Rattle.pemb_file.specs.declared.section.Section.{Section as Held}
use Rattle.pemb_file.specs.Section.{seen, all_seen}

-- the section of a number, of some
abbrev pub found : ℕ → List Section → Section
found number ss = unwrap_or (find (λ s. s.number == number) ss) no_section

pub drop-past : {X : Type 0} (xs : List X) (i : ℕ) → i ≤ length xs → length xs ≤ i → drop i xs ≡ []
drop-past xs i a b = let e : i ≡ length xs = omega (arith, a, b) in ap (λ k. drop k xs) e ∙ drop-length xs

module _ (items : List Held) (i : ℕ) (d : Held) (within : i < length items) where
  pub total-next : total_words (all_seen (drop i items)) ≡ section_words (seen (get_or items i d)) + total_words (all_seen (drop (i + 1) items))
  unfolding total_words
  total-next = at_drop_more (λ ss. total_words (all_seen ss)) items i d within

  pub before-next : (n : ℕ) → (get_or items i d).number ≢ n → words_before n (all_seen (drop i items)) ≡ section_words (seen (get_or items i d)) + words_before n (all_seen (drop (i + 1) items))
  unfolding words_before
  before-next n other = at_drop_more (λ ss. words_before n (all_seen ss)) items i d within ∙ rw (ne_eqb _ _ other) refl

  pub before-here : (n : ℕ) → (get_or items i d).number ≡ n → words_before n (all_seen (drop i items)) ≡ 0
  unfolding words_before
  before-here n same = at_drop_more (λ ss. words_before n (all_seen ss)) items i d within ∙ rw (eq-eqb _ _ same) refl

  pub found-next : (n : ℕ) → (get_or items i d).number ≢ n → found n (all_seen (drop i items)) ≡ found n (all_seen (drop (i + 1) items))
  found-next n other = at_drop_more (λ ss. found n (all_seen ss)) items i d within ∙ rw (ne_eqb _ _ other) refl

  pub found-here : (n : ℕ) → (get_or items i d).number ≡ n → found n (all_seen (drop i items)) ≡ seen (get_or items i d)
  found-here n same = at_drop_more (λ ss. found n (all_seen ss)) items i d within ∙ rw (eq-eqb _ _ same) refl

pub total-end : (items : List Held) (i : ℕ) → i ≤ length items → length items ≤ i → total_words (all_seen (drop i items)) ≡ 0
unfolding total_words
total-end items i a b = ap (λ ss. total_words (all_seen ss)) (drop-past items i a b)

pub before-end : (items : List Held) (i n : ℕ) → i ≤ length items → length items ≤ i → words_before n (all_seen (drop i items)) ≡ 0
unfolding words_before
before-end items i n a b = ap (λ ss. words_before n (all_seen ss)) (drop-past items i a b)

pub found-end : (items : List Held) (i n : ℕ) → i ≤ length items → length items ≤ i → found n (all_seen (drop i items)) ≡ no_section
found-end items i n a b = ap (λ ss. found n (all_seen ss)) (drop-past items i a b)

-- these are the sections of some counts
module _ (c : HeaderCounts) (items : List Held) (are : all_seen items ≡ sections c) where
  pub count-is : length items ≡ 45
  unfolding sections
  count-is = sym (length-map items seen) ∙ ap (λ (ss : List Section). length ss) are

  pub section-is : (n : ℕ) → section c n ≡ found n (all_seen items)
  unfolding section
  section-is n = ap (found n) (sym are)

  pub from-is : (n : ℕ) → section_from c n ≡ 15 + words_before n (all_seen items)
  unfolding section_from
  from-is n = ap (λ ss. 15 + words_before n ss) (sym are)

  pub words-are : file_words c ≡ 15 + total_words (all_seen items)
  unfolding file_words
  words-are = ap (λ ss. 15 + total_words ss) (sym are)
