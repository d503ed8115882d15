-- The faults of a file before its sections, one by one.
use Rattle.std.specs.Prelude.{nat_le, slice_index, ◌||◌}
use Rattle.std.proofs.Common.{inl, inr, false, ◌≡◌, ℕ, ◌%◌, ◌≤◌, ◌&&◌, ◌==◌, List, [], ◌∷◌, length, refl, ap, sym, ◌∙◌, arith, Option, Some, None}
use Rattle.plane_model.specs.Sets.{or_else}
use Rattle.bit_words.specs.Lists.{first_some}
use Rattle.file_laws.specs.Layout.{HeaderCounts, counts_in, words_of, file_words, header_words}
use Rattle.file_laws.specs.Faults.{front_fault, digest_fault, count_fault, unless, magic, wanted_words}
use Rattle.file_laws.specs.declared.fault.FileFault.{FileFault}
use Rattle.file_laws.specs.declared.fault.FileFault.TheVariants as fault
use Rattle.file_laws.proofs.Lengths.{unless-true, words_of-length}
use Rattle.std.proofs.lemmas.Bool.{eqb-true, cases_Bool, ne_eqb, le-leb, both_ways}

pub first-some : {X : Type 0} (o : Option X) (os : List (Option X)) (x : X) → o ≡ Some x → first_some (o ∷ os) ≡ Some x
unfolding first_some
first-some o os x h = rw h refl

pub first-none : {X : Type 0} (o : Option X) (os : List (Option X)) → o ≡ None → first_some (o ∷ os) ≡ first_some os
unfolding first_some
first-none o os h = rw h refl

pub first-end : {X : Type 0} → first_some {X = X} [] ≡ None
unfolding first_some
first-end = refl

pub first-last : {X : Type 0} (o : Option X) → first_some (o ∷ []) ≡ o
unfolding first_some
first-last None = refl
first-last (Some x) = refl

-- the first fault up to the counts
abbrev pub begun_fault : List ℕ → Option FileFault
begun_fault bytes = or_else (front_fault bytes) (or_else (digest_fault bytes) (count_fault (counts_in (words_of bytes))))

abbrev pub bytes_part : List ℕ → Option FileFault
bytes_part bytes = unless (length bytes % 8 == 0) (fault.NotWords (length bytes))

abbrev pub head_part : List ℕ → Option FileFault
head_part words = unless (nat_le 11 (length words) && (slice_index words 0 == magic)) (fault.NotPemb (length words))

abbrev pub form_part : List ℕ → Option FileFault
form_part words = unless ((slice_index words 1 == 1) || (slice_index words 1 == 2)) (fault.UnknownForm (slice_index words 1))

abbrev pub length_part : List ℕ → HeaderCounts → Option FileFault
length_part words c = unless (length words == file_words c) (fault.Length (file_words c) (length words))

abbrev pub header_part : List ℕ → Option FileFault
header_part words = unless (nat_le header_words (length words)) (fault.Length header_words (length words))

abbrev wanted_part : List ℕ → Option FileFault
wanted_part words = unless (length words == wanted_words words) (fault.Length (wanted_words words) (length words))

parts : List ℕ → List ℕ → Option FileFault
parts bytes words = first_some (bytes_part bytes ∷ head_part words ∷ form_part words ∷ wanted_part words ∷ [])

-- without a header its words are wanted, and else those that the counts ask for
short-wanted : (words : List ℕ) (e : FileFault) → header_part words ≡ Some e → wanted_part words ≡ Some e
short-wanted words e h =
    elim (cases_Bool (nat_le header_words (length words))) [
      | inl t ↦ let n : header_part words ≡ None = rw t refl in cc
      | inr f ↦
          let other : (length words == header_words) ≡ false = ne_eqb _ _ (λ is. both_ways _ f (le-leb header_words (length words) (omega (arith, is)))) in
          let a : wanted_part words ≡ Some (fault.Length header_words (length words)) = rw f (rw other refl) in
          let b : header_part words ≡ Some (fault.Length header_words (length words)) = rw f refl in
          a ∙ sym b ∙ h
    ]

long-wanted : (words : List ℕ) → header_part words ≡ None → wanted_part words ≡ length_part words (counts_in words)
long-wanted words h = let t = unless-true (nat_le header_words (length words)) (fault.Length header_words (length words)) h in rw t refl

front-parts : (bytes : List ℕ) → front_fault bytes ≡ parts bytes (words_of bytes)
unfolding front_fault parts
front-parts bytes = refl

pub front-begun : (bytes : List ℕ) (e : FileFault) → front_fault bytes ≡ Some e → begun_fault bytes ≡ Some e
front-begun bytes e h = ap (λ o. or_else o (or_else (digest_fault bytes) (count_fault (counts_in (words_of bytes))))) h

pub at-bytes : (bytes : List ℕ) (e : FileFault) → bytes_part bytes ≡ Some e → front_fault bytes ≡ Some e
unfolding parts
at-bytes bytes e h = front-parts bytes ∙ first-some (bytes_part bytes) _ e h

pub at-head : (bytes words : List ℕ) (e : FileFault) → words ≡ words_of bytes → bytes_part bytes ≡ None → head_part words ≡ Some e → front_fault bytes ≡ Some e
unfolding parts
at-head bytes words e same a h =
    front-parts bytes ∙ ap (parts bytes) (sym same) ∙ first-none (bytes_part bytes) _ a ∙ first-some (head_part words) _ e h

pub at-form : (bytes words : List ℕ) (e : FileFault) → words ≡ words_of bytes → bytes_part bytes ≡ None → head_part words ≡ None → form_part words ≡ Some e → front_fault bytes ≡ Some e
unfolding parts
at-form bytes words e same a b h =
    front-parts bytes ∙ ap (parts bytes) (sym same) ∙ first-none (bytes_part bytes) _ a ∙ first-none (head_part words) _ b ∙ first-some (form_part words) _ e h

pub at-header : (bytes words : List ℕ) (e : FileFault) → words ≡ words_of bytes → bytes_part bytes ≡ None → head_part words ≡ None → form_part words ≡ None → header_part words ≡ Some e → front_fault bytes ≡ Some e
unfolding parts
at-header bytes words e same a b d h =
    front-parts bytes ∙ ap (parts bytes) (sym same) ∙ first-none (bytes_part bytes) _ a ∙ first-none (head_part words) _ b ∙ first-none (form_part words) _ d
    ∙ first-some (wanted_part words) _ e (short-wanted words e h)

pub at-length : (bytes words : List ℕ) (c : HeaderCounts) (e : FileFault) → words ≡ words_of bytes → c ≡ counts_in words → bytes_part bytes ≡ None → head_part words ≡ None → form_part words ≡ None → header_part words ≡ None → length_part words c ≡ Some e → front_fault bytes ≡ Some e
unfolding parts
at-length bytes words c e same is a b d i h =
    front-parts bytes ∙ ap (parts bytes) (sym same) ∙ first-none (bytes_part bytes) _ a ∙ first-none (head_part words) _ b ∙ first-none (form_part words) _ d
    ∙ first-some (wanted_part words) _ e (long-wanted words i ∙ ap (length_part words) (sym is) ∙ h)

-- the front without fault
pub front-none : (bytes words : List ℕ) (c : HeaderCounts) → words ≡ words_of bytes → c ≡ counts_in words → bytes_part bytes ≡ None → head_part words ≡ None → form_part words ≡ None → header_part words ≡ None → length_part words c ≡ None → front_fault bytes ≡ None
unfolding parts
front-none bytes words c same is a b d i h =
    front-parts bytes ∙ ap (parts bytes) (sym same) ∙ first-none (bytes_part bytes) _ a ∙ first-none (head_part words) _ b ∙ first-none (form_part words) _ d
    ∙ first-none (wanted_part words) _ (long-wanted words i ∙ ap (length_part words) (sym is) ∙ h) ∙ first-end

pub at-digest : (bytes : List ℕ) (e : FileFault) → front_fault bytes ≡ None → digest_fault bytes ≡ Some e → begun_fault bytes ≡ Some e
at-digest bytes e a h = rw (a, h) refl

pub at-counts : (bytes words : List ℕ) (c : HeaderCounts) (o : Option FileFault) → words ≡ words_of bytes → c ≡ counts_in words → front_fault bytes ≡ None → digest_fault bytes ≡ None → count_fault c ≡ o → begun_fault bytes ≡ o
at-counts bytes words c o same is a b h =
    let e : count_fault (counts_in (words_of bytes)) ≡ o = ap (λ ws. count_fault (counts_in ws)) (sym same) ∙ ap count_fault (sym is) ∙ h in
    rw (a, b) e

pub length-right : (words : List ℕ) (c : HeaderCounts) → length_part words c ≡ None → length words ≡ file_words c
length-right words c h = eqb-true _ _ (unless-true (length words == file_words c) (fault.Length (file_words c) (length words)) h)

pub long-bytes : (bytes words : List ℕ) → words ≡ words_of bytes → 15 ≤ length words → 88 ≤ length bytes
long-bytes bytes words same long = let e = words_of-length bytes in let f = ap (λ (ws : List ℕ). length ws) same in omega (arith, e, f, long)
