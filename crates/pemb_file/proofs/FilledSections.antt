-- Sections that follow each other, each with its fields: where each stands, and that it is padded.
use Rattle.std.proofs.Common.{◌≡◌, ℕ, ◌+◌, ◌*◌, ◌/◌, ◌%◌, ◌^◌, ◌<◌, List, [], ◌∷◌, ◌++◌, length, get_or, take, drop, refl, ap, sym, ◌∙◌, arith, map, true, lit<, inl, inr, None, length-append}
use Rattle.std.specs.Prelude.{find, unwrap_or, ◌==◌, flat_map, slice_index}
use Rattle.std.proofs.lemmas.Bool.{cases_Bool, lt-ltb}
use Rattle.std.proofs.lemmas.Bool.Decides.{nat_tests}
use Rattle.std.proofs.Math.Seq.{take-append_seam, drop-append_seam, drop-append-add}
use Rattle.std.proofs.lemmas.List.{drop-drop, get_or_append_left}
use Rattle.file_laws.specs.Layout.{section_words, total_words, words_before, no_section, section_bits}
use Rattle.file_laws.specs.Faults.{is_padded, padding_from}
use Rattle.file_laws.specs.Image.{Filled, section_of, words_of_filled, packed}
use Rattle.bit_words.specs.Lists.{tabulate}
use Rattle.pemb_file.specs.Written.{AllFit}
use Rattle.pemb_file.proofs.Packed.{length-packed, padded}

abbrev pub no_filled : Filled
no_filled = record { number = 0; width = 0; items = [] }

-- the section of a number
abbrev pub filled_of : ℕ → List Filled → Filled
filled_of number fs = unwrap_or (find (λ f. f.number == number) fs) no_filled

-- its numbers have its width
pub filled-fit : (number : ℕ) (fs : List Filled) → AllFit fs → (k : ℕ) → slice_index (filled_of number fs).items k < 2 ^ (filled_of number fs).width
filled-fit number [] fit k = lit< tt
filled-fit number (f ∷ fs) fit k =
    elim (cases_Bool (f.number == number)) [
      | inl e ↦ rw e (fit.0 k)
      | inr e ↦ rw e (filled-fit number fs fit.1 k)
    ]

pub length-filled : (f : Filled) → length (words_of_filled f) ≡ section_words (section_of f)
unfolding section_words
length-filled f = length-packed f.width f.items

pub length-all : (fs : List Filled) → length (flat_map words_of_filled fs) ≡ total_words (map section_of fs)
unfolding total_words
length-all [] = refl
length-all (f ∷ fs) = let a = length-filled f in let b = length-all fs in let l = length-append (words_of_filled f) (flat_map words_of_filled fs) in omega (arith, a, b, l)

pub section-filled : (number : ℕ) (fs : List Filled) → unwrap_or (find (λ s. s.number == number) (map section_of fs)) no_section ≡ section_of (filled_of number fs)
section-filled number [] = refl
section-filled number (f ∷ fs) =
    elim (cases_Bool (f.number == number)) [
      | inl e ↦ rw e refl
      | inr e ↦ rw e (section-filled number fs)
    ]

none-packed : packed 0 [] ≡ []
unfolding packed tabulate
none-packed = refl

-- the words of a section among those of all
pub part-filled : (number : ℕ) (fs : List Filled) → take (section_words (section_of (filled_of number fs))) (drop (words_before number (map section_of fs)) (flat_map words_of_filled fs)) ≡ words_of_filled (filled_of number fs)
unfolding words_before section_words
part-filled number [] = sym none-packed
part-filled number (f ∷ fs) =
    elim (cases_Bool (f.number == number)) [
      | inl e ↦ rw (e, ← length-filled f) (take-append_seam (words_of_filled f) (flat_map words_of_filled fs))
      | inr e ↦
          let d : drop (section_words (section_of f) + words_before number (map section_of fs)) (words_of_filled f ++ flat_map words_of_filled fs) ≡ drop (words_before number (map section_of fs)) (flat_map words_of_filled fs) =
          rw (← length-filled f) (drop-append-add (words_of_filled f) (flat_map words_of_filled fs) (words_before number (map section_of fs))) in
          rw (e, d) (part-filled number fs)
    ]

padded_first : (f : Filled) (rest : List ℕ) → ((k : ℕ) → get_or f.items k 0 < 2 ^ f.width) → is_padded (words_of_filled f ++ rest) (section_bits (section_of f)) ≡ true
padded_first f rest small =
    let n = length f.items * f.width in
    elim (cases_Bool (n % 64 == 0)) [
      | inl e ↦ rw e refl
      | inr e ↦
          let some : 0 < n % 64 = grind (arith, nat_tests) in
          let within : n / 64 < length (words_of_filled f) = let l = length-packed f.width f.items in omega arith in
          let at : slice_index (words_of_filled f ++ rest) (n / 64) ≡ get_or (words_of_filled f) (n / 64) 0 = get_or_append_left (words_of_filled f) rest 0 (n / 64) within in
          rw (e, at) (lt-ltb _ _ (padded f.width f.items small some))
    ]

pub padding-filled : (words : List ℕ) (from : ℕ) (fs : List Filled) → AllFit fs → drop from words ≡ flat_map words_of_filled fs → padding_from words from (map section_of fs) ≡ None
unfolding padding_from
padding-filled words from [] fit e = refl
padding-filled words from (f ∷ fs) fit e =
    let here : is_padded (drop from words) (section_bits (section_of f)) ≡ true = ap (λ ws. is_padded ws (section_bits (section_of f))) e ∙ padded_first f (flat_map words_of_filled fs) fit.0 in
    let next : drop (from + section_words (section_of f)) words ≡ flat_map words_of_filled fs =
    sym (drop-drop (section_words (section_of f)) from words) ∙ rw (e, ← length-filled f) (drop-append_seam (words_of_filled f) (flat_map words_of_filled fs)) in
    rw here (padding-filled words (from + section_words (section_of f)) fs fit.1 next)
