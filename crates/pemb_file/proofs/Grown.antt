-- Bytes that grow by sections.
use Rattle.std.specs.Prelude.{flat_map, slice_index, Result, Ok, Err, OnOk}
use Rattle.std.proofs.Common.{◌≡◌, ℕ, ◌^◌, ◌<◌, ◌≤◌, Bool, List, [], ◌∷◌, ◌++◌, length, refl, ap, sym, ◌∙◌, subst, append_assoc}
use Rattle.std.proofs.lemmas.List.{append-nil}
use Rattle.bit_words.specs.Bits.{HoldsBits, fields_in}
use Rattle.bit_words.specs.Packed.{PackedList, Packs}
use Rattle.id_names.specs.Making.{HoldsFields}
use Rattle.file_laws.specs.Image.{Filled, words_of_filled, with_bits, with_fields, with_width, with_words, bytes_of}
use Rattle.pemb_file.specs.Written.{AllFit, Written}
use Rattle.pemb_file.proofs.Packed.{packed_bits, packed_is, whole_packed, ones-below, fields-below}
use Rattle.pemb_file.proofs.ImageBytes.{bytes_of-append}

one : (old new : List ℕ) (f : Filled) (words : List ℕ) → new ≡ old ++ bytes_of words → words ≡ words_of_filled f → ((k : ℕ) → slice_index f.items k < 2 ^ f.width) → Written old new (f ∷ [])
one old new f words e is small =
    record { bytes = e ∙ ap (λ ws. old ++ bytes_of ws) (is ∙ sym (append-nil (words_of_filled f))); fit = (small, tt) }

words_both : (fs gs : List Filled) → flat_map words_of_filled (fs ++ gs) ≡ flat_map words_of_filled fs ++ flat_map words_of_filled gs
words_both [] gs = refl
words_both (f ∷ fs) gs = ap (λ ws. words_of_filled f ++ ws) (words_both fs gs) ∙ sym (append_assoc (words_of_filled f) (flat_map words_of_filled fs) (flat_map words_of_filled gs))

fit_both : (fs gs : List Filled) → AllFit fs → AllFit gs → AllFit (fs ++ gs)
fit_both [] gs a b = b
fit_both (f ∷ fs) gs a b = (a.0, fit_both fs gs a.1 b)

pub both : (old mid new : List ℕ) (fs gs : List Filled) → Written old mid fs → Written mid new gs → Written old new (fs ++ gs)
both old mid new fs gs a b =
    let F = flat_map words_of_filled fs in
    let G = flat_map words_of_filled gs in
    record {
      bytes =
          b.bytes ∙ ap (λ xs. xs ++ bytes_of G) a.bytes ∙ append_assoc old (bytes_of F) (bytes_of G)
          ∙ ap (λ xs. old ++ xs) (sym (bytes_of-append F G)) ∙ ap (λ ws. old ++ bytes_of ws) (sym (words_both fs gs));
      fit = fit_both fs gs a.fit b.fit;
    }

pub bits-written : (number : ℕ) (old new words : List ℕ) (bits : List Bool) → length bits ≤ 2147483647 → HoldsBits words bits → ((k : ℕ) → slice_index words k < 2 ^ 64) → new ≡ old ++ bytes_of words → Written old new (with_bits number bits ∷ [])
bits-written number old new words bits few h small e = one old new (with_bits number bits) words e (packed_bits words bits few h small) (ones-below bits)

pub fields-written : (number width : ℕ) (old new words items : List ℕ) → Packs words (length items) width → fields_in words (length items) width ≡ items → ((k : ℕ) → slice_index words k < 2 ^ 64) → new ≡ old ++ bytes_of words
    → Written old new (with_width number width items ∷ [])
fields-written number width old new words items h f small e =
    one old new (with_width number width items) words e (packed_is words width items h f small)
    (λ k. subst (λ xs. slice_index xs k < 2 ^ width) f (fields-below words (length items) width k))

-- the same, of what a maker holds
pub maker-written : (number : ℕ) (old new words items : List ℕ) (m : PackedList) → m ≡ record { width = 32; items = items } → Packs words (length m.items) m.width → fields_in words (length m.items) m.width ≡ m.items
    → ((k : ℕ) → slice_index words k < 2 ^ 64) → new ≡ old ++ bytes_of words → Written old new (with_fields number items ∷ [])
maker-written number old new words items m is h f small e =
    fields-written number 32 old new words items
    (subst (λ (l : PackedList). Packs words (length l.items) l.width) is h)
    (subst (λ (l : PackedList). fields_in words (length l.items) l.width ≡ l.items) is f) small e

pub words-written : (number : ℕ) (old new words nodes : List ℕ) → words ≡ nodes → ((k : ℕ) → slice_index words k < 2 ^ 64) → new ≡ old ++ bytes_of words → Written old new (with_words number nodes ∷ [])
words-written number old new words nodes is small e =
    let small' : (k : ℕ) → slice_index nodes k < 2 ^ 64 = subst (λ xs. (k : ℕ) → slice_index xs k < 2 ^ 64) is small in
    one old new (with_words number nodes) words e (is ∙ sym (whole_packed nodes small')) small'

-- the same of a result
pub ok_then : {S E P Q : Type 0} (r : Result S E) → (P → Q) → OnOk r P → OnOk r Q
ok_then (Ok s) f h = f h
ok_then (Err e) f h = tt

module _ (number : ℕ) (old new seen words : List ℕ) (is : seen ≡ words) (small : (k : ℕ) → slice_index seen k < 2 ^ 64) (e : new ≡ old ++ bytes_of seen) where
  below : (k : ℕ) → slice_index words k < 2 ^ 64
  below = subst (λ xs. (k : ℕ) → slice_index xs k < 2 ^ 64) is small

  grown : new ≡ old ++ bytes_of words
  grown = e ∙ ap (λ ws. old ++ bytes_of ws) is

  pub bits-in : (m bits : List Bool) → length bits ≤ 2147483647 → m ≡ bits → HoldsBits words m → Written old new (with_bits number bits ∷ [])
  bits-in m bits few same h = bits-written number old new words bits few (subst (HoldsBits words) same h) below grown

  pub fields-in : (items : List ℕ) (m : PackedList) → m ≡ record { width = 32; items = items } → Packs words (length m.items) m.width → fields_in words (length m.items) m.width ≡ m.items → Written old new (with_fields number items ∷ [])
  fields-in items m same h f = maker-written number old new words items m same h f below grown

  pub held-in : (items : List ℕ) → Packs words (length items) 32 → fields_in words (length items) 32 ≡ items → Written old new (with_fields number items ∷ [])
  held-in items h f = fields-written number 32 old new words items h f below grown

  pub sized-in : (width : ℕ) (items : List ℕ) → HoldsFields words width items → Written old new (with_width number width items ∷ [])
  sized-in width items h = fields-written number width old new words items h.packs h.fields below grown

  pub words-in : (nodes : List ℕ) → words ≡ nodes → Written old new (with_words number nodes ∷ [])
  words-in nodes same = words-written number old new words nodes same below grown
