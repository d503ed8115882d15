-- The length of a lawful file.
use Rattle.std.specs.Prelude.{nat_le, is_none, slice_index, if◌then◌else◌, ◌||◌}
use Rattle.std.proofs.Common.{◌≡◌, ℕ, zero, suc, ◌⊎◌, inl, inr, ◌∙◌, drop, ◌*◌, ◌/◌, ◌%◌, Bool, true, false, ◌&&◌, List, [], ◌∷◌, length, refl, ap, arith, Option, Some, None, ◌==◌, IsTrue}
use Rattle.std.proofs.lemmas.Bool.{eqb-true, cases_Bool, le-leb, both_ways, or_cases}
use Rattle.plane_model.specs.Sets.{or_else}
use Rattle.bit_words.specs.Words.{words_in}
use Rattle.bit_words.proofs.Finds.{first_none}
use Rattle.file_laws.specs.Layout.{counts_in, words_of, file_words, header_words}
use Rattle.file_laws.specs.Faults.{front_fault, digest_fault, count_fault, unless, magic, wanted_words}
use Rattle.file_laws.specs.Lawful.{first_fault, is_lawful, content_fault}
use Rattle.file_laws.specs.declared.fault.FileFault.{FileFault}
use Rattle.file_laws.specs.declared.fault.FileFault.TheVariants as fault

or_else_none : {X : Type 0} (o r : Option X) → or_else o r ≡ None → (o ≡ None) × (r ≡ None)
or_else_none None r h = (refl, h)
or_else_none (Some x) r h = cc

pub none-is_none : {X : Type 0} (o : Option X) → is_none o ≡ true → o ≡ None
none-is_none None h = refl
none-is_none (Some x) h = cc

pub unless-true : (b : Bool) (e : FileFault) → unless b e ≡ None → b ≡ true
unless-true true e h = refl
unless-true false e h = cc

-- the four parts of the first fault
pub record NoFaults (bytes : List ℕ) : Type 0 where
  pub front : front_fault bytes ≡ None
  pub digest : digest_fault bytes ≡ None
  pub counts : count_fault (counts_in (words_of bytes)) ≡ None
  pub content : content_fault (words_of bytes) ≡ None

pub no_faults : (bytes : List ℕ) → IsTrue (is_lawful bytes) → NoFaults bytes
unfolding first_fault
no_faults bytes h =
    let none = none-is_none (or_else (front_fault bytes) (or_else (digest_fault bytes) (or_else (count_fault (counts_in (words_of bytes))) (content_fault (words_of bytes))))) h in
    let a = or_else_none (front_fault bytes) (or_else (digest_fault bytes) (or_else (count_fault (counts_in (words_of bytes))) (content_fault (words_of bytes)))) none in
    let b = or_else_none (digest_fault bytes) (or_else (count_fault (counts_in (words_of bytes))) (content_fault (words_of bytes))) a.1 in
    let c = or_else_none (count_fault (counts_in (words_of bytes))) (content_fault (words_of bytes)) b.1 in
    record { front = a.0; digest = b.0; counts = c.0; content = c.1 }

words_in-length : (n : ℕ) (bytes : List ℕ) → length (words_in n bytes) ≡ n
unfolding words_in
words_in-length zero bytes = refl
words_in-length (suc n) bytes = ap suc (words_in-length n (drop 8 bytes))

pub words_of-length : (bytes : List ℕ) → length (words_of bytes) ≡ length bytes / 8
unfolding words_of
words_of-length bytes = words_in-length (length bytes / 8) bytes

-- as many words as are wanted are as many as the counts ask for
wanted : (n counted : ℕ) → n ≡ (if nat_le header_words n then counted else header_words) → n ≡ counted
wanted n counted e =
    elim (cases_Bool (nat_le header_words n)) [
      | inl t ↦ e ∙ rw t refl
      | inr f ↦
          let is : n ≡ header_words = e ∙ rw f refl in
          let within : nat_le header_words n ≡ true = le-leb header_words n (omega (arith, is)) in
          absurd (both_ways _ f within)
    ]

-- the parts of the first four faults
pub record FrontFits (bytes : List ℕ) : Type 0 where
  pub whole : length bytes % 8 ≡ 0
  pub form : ((slice_index (words_of bytes) 1 == 1) || (slice_index (words_of bytes) 1 == 2)) ≡ true
  pub many : length (words_of bytes) ≡ file_words (counts_in (words_of bytes))

pub front_fits : (bytes : List ℕ) → front_fault bytes ≡ None → FrontFits bytes
unfolding front_fault
front_fits bytes h =
    let words = words_of bytes in
    let last = unless (length words == wanted_words words) (fault.Length (wanted_words words) (length words)) in
    let form = unless ((slice_index words 1 == 1) || (slice_index words 1 == 2)) (fault.UnknownForm (slice_index words 1)) in
    let head = unless (nat_le 11 (length words) && (slice_index words 0 == magic)) (fault.NotPemb (length words)) in
    let a = first_none (unless (length bytes % 8 == 0) (fault.NotWords (length bytes))) (head ∷ form ∷ last ∷ []) h in
    let b = first_none head (form ∷ last ∷ []) a.1 in
    let c = first_none form (last ∷ []) b.1 in
    let d = first_none last [] c.1 in
    let right = eqb-true _ _ (unless-true (length words == wanted_words words) (fault.Length (wanted_words words) (length words)) d.0) in
    record {
      whole = eqb-true _ _ (unless-true (length bytes % 8 == 0) (fault.NotWords (length bytes)) a.0);
      form = unless-true ((slice_index words 1 == 1) || (slice_index words 1 == 2)) (fault.UnknownForm (slice_index words 1)) c.0;
      many = wanted (length words) (file_words (counts_in words)) right;
    }

pub lawful_length : (bytes : List ℕ) → IsTrue (is_lawful bytes) → length bytes ≡ 8 * file_words (counts_in (words_of bytes))
lawful_length bytes h =
    let f = front_fits bytes (no_faults bytes h).front in
    let e = words_of-length bytes in
    let m = f.many in
    let w = f.whole in
    omega (arith, w, m, e)

-- a lawful file is of form 1 or of form 2
pub lawful_form : (bytes : List ℕ) → IsTrue (is_lawful bytes) → ((counts_in (words_of bytes)).form ≡ 1) ⊎ ((counts_in (words_of bytes)).form ≡ 2)
lawful_form bytes h =
    elim (or_cases _ _ (front_fits bytes (no_faults bytes h).front).form) [
      | inl one ↦ inl (eqb-true _ _ one)
      | inr two ↦ inr (eqb-true _ _ two)
    ]
