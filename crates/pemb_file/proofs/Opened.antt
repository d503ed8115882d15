-- What the parts of an opening say together.
use Rattle.std.specs.Prelude.{option_map, IsSome}
use Rattle.std.proofs.Common.{◌≡◌, ℕ, Bool, true, List, [], ◌∷◌, length, refl, ap, sym, ◌∙◌, subst, Option, Some, None, IsTrue}
use Rattle.plane_model.specs.Sets.{or_else}
use Rattle.bit_words.specs.Lists.{first_some}
use Rattle.bit_words.proofs.Finds.{first_none}
use Rattle.parens.specs.Matching.{balance_fault}
use Rattle.code_laws.specs.Code.{Code}
use Rattle.code_laws.specs.SeqFault.{seq_fault, is_sound}
use Rattle.file_laws.specs.Layout.{counts_in, words_of, bits_at, fields_at}
use Rattle.file_laws.specs.Contents.{contents_with}
use Rattle.file_laws.specs.Held.{ids_at, contents_of}
use Rattle.file_laws.specs.Faults.{front_fault, digest_fault, count_fault, directories_fault, names_fault, told_in, all_names_fault, places_fault, start_fault, regions_fault, padding_fault}
use Rattle.file_laws.specs.Lawful.{first_fault, content_fault, is_whole}
use Rattle.file_laws.specs.declared.fault.FileFault.{FileFault}
use Rattle.file_laws.specs.declared.fault.FileFault.TheVariants as fault
use Rattle.file_laws.proofs.Whole.{option_none, whole_sound}
use Rattle.file_laws.proofs.Sections.{counts_fit, content_fits, sections_have, whole_words}
use Rattle.pemb_file.specs.Sealed.{LacksOnlyDigest}
use Rattle.pemb_file.proofs.FrontFaults.{begun_fault, first-some, first-none, first-last}

-- the names of each class
pub record NamesFit (words : List ℕ) : Type 0 where
  pub nodes : names_fault words 30 ≡ None
  pub edges : names_fault words 40 ≡ None
  pub faces : names_fault words 50 ≡ None

pub names_fit : (words : List ℕ) → all_names_fault words ≡ None → NamesFit words
unfolding all_names_fault
names_fit words h =
    let n11 = first_none (option_map (told_in fault.Name 30) (names_fault words 30)) _ h in
    let n13 = first_none (option_map (told_in fault.Name 40) (names_fault words 40)) _ n11.1 in
    let n15 = first_none (option_map (told_in fault.Name 50) (names_fault words 50)) _ n13.1 in
    record { nodes = option_none (told_in fault.Name 30) _ n11.0; edges = option_none (told_in fault.Name 40) _ n13.0; faces = option_none (told_in fault.Name 50) _ n15.0 }

pub region_names : (words : List ℕ) → regions_fault words (contents_of words) ≡ None → names_fault words 60 ≡ None
unfolding regions_fault contents_of
region_names words h =
    let r20 = first_none (option_map (fault.RegionPart 20) (balance_fault (bits_at words 20) 0 (length (bits_at words 20)))) _ h in
    let r21 = first_none _ _ r20.1 in
    let r22 = first_none _ _ r21.1 in
    let r23 = first_none (option_map (told_in fault.RegionPart 60) (names_fault words 60)) _ r22.1 in
    option_none (told_in fault.RegionPart 60) _ r23.0

-- the contents, part by part
pub contents-is : (words : List ℕ) (code : Code) (forward region_bits : List Bool) (nodes edges faces regions places place_order isolated members : List ℕ)
    → code ≡ (contents_of words).code → forward ≡ bits_at words 10 → nodes ≡ ids_at words 30 → edges ≡ ids_at words 40 → faces ≡ ids_at words 50 → regions ≡ ids_at words 60
    → places ≡ fields_at words 17 → place_order ≡ fields_at words 18 → isolated ≡ fields_at words 19 → region_bits ≡ bits_at words 20 → members ≡ fields_at words 25
    → contents_with code forward nodes edges faces regions places place_order isolated region_bits members ≡ contents_of words
unfolding contents_of
contents-is words code forward region_bits nodes edges faces regions places place_order isolated members a b c d e f g h i j k = rw (a, b, c, d, e, f, g, h, i, j, k) refl

-- as many components and isolated nodes have places as the header says
pub ordered_many : (words : List ℕ) → (length (contents_of words).place_order ≡ (counts_in words).components) × (length (contents_of words).isolated ≡ (counts_in words).isolated)
unfolding contents_of
ordered_many words = let have = sections_have words in (have.place_order, have.isolated)

-- the parts of a content fault, in their order
abbrev pub sequence_part : List ℕ → Option FileFault
sequence_part words = option_map fault.Sequence (seq_fault (contents_of words).code)

abbrev pub placed_part : List ℕ → Option FileFault
placed_part words = first_some (places_fault (contents_of words) ∷ start_fault (contents_of words) ∷ [])

two-some : {X : Type 0} (p s : Option X) (os : List (Option X)) (x : X) → first_some (p ∷ s ∷ []) ≡ Some x → first_some (p ∷ s ∷ os) ≡ Some x
unfolding first_some
two-some None None os x h = cc
two-some None (Some y) os x h = h
two-some (Some y) s os x h = h

two-none : {X : Type 0} (p s : Option X) (os : List (Option X)) → first_some (p ∷ s ∷ []) ≡ None → first_some (p ∷ s ∷ os) ≡ first_some os
unfolding first_some
two-none None None os h = refl
two-none None (Some y) os h = cc
two-none (Some y) s os h = cc

module _ (words : List ℕ) where
  content-parts : content_fault words ≡ first_some (sequence_part words ∷ directories_fault words (contents_of words).code ∷ all_names_fault words ∷ places_fault (contents_of words) ∷ start_fault (contents_of words) ∷ regions_fault words (contents_of words) ∷ padding_fault words ∷ [])
  unfolding content_fault
  content-parts = refl

  pub at-sequence : (e : FileFault) → sequence_part words ≡ Some e → content_fault words ≡ Some e
  at-sequence e h = content-parts ∙ first-some (sequence_part words) _ e h

  pub at-directories : (e : FileFault) → sequence_part words ≡ None → directories_fault words (contents_of words).code ≡ Some e → content_fault words ≡ Some e
  at-directories e a h = content-parts ∙ first-none (sequence_part words) _ a ∙ first-some (directories_fault words (contents_of words).code) _ e h

  pub at-names : (e : FileFault) → sequence_part words ≡ None → directories_fault words (contents_of words).code ≡ None → all_names_fault words ≡ Some e → content_fault words ≡ Some e
  at-names e a b h = content-parts ∙ first-none (sequence_part words) _ a ∙ first-none (directories_fault words (contents_of words).code) _ b ∙ first-some (all_names_fault words) _ e h

  -- nothing up to the names
  to_names : sequence_part words ≡ None → directories_fault words (contents_of words).code ≡ None → all_names_fault words ≡ None
      → content_fault words ≡ first_some (places_fault (contents_of words) ∷ start_fault (contents_of words) ∷ regions_fault words (contents_of words) ∷ padding_fault words ∷ [])
  to_names a b c = content-parts ∙ first-none (sequence_part words) _ a ∙ first-none (directories_fault words (contents_of words).code) _ b ∙ first-none (all_names_fault words) _ c

  pub at-placed : (e : FileFault) → sequence_part words ≡ None → directories_fault words (contents_of words).code ≡ None → all_names_fault words ≡ None → placed_part words ≡ Some e → content_fault words ≡ Some e
  at-placed e a b c h = to_names a b c ∙ two-some (places_fault (contents_of words)) (start_fault (contents_of words)) _ e h

  to_placed : sequence_part words ≡ None → directories_fault words (contents_of words).code ≡ None → all_names_fault words ≡ None → placed_part words ≡ None
      → content_fault words ≡ first_some (regions_fault words (contents_of words) ∷ padding_fault words ∷ [])
  to_placed a b c d = to_names a b c ∙ two-none (places_fault (contents_of words)) (start_fault (contents_of words)) _ d

  pub at-regions : (e : FileFault) → sequence_part words ≡ None → directories_fault words (contents_of words).code ≡ None → all_names_fault words ≡ None → placed_part words ≡ None
      → regions_fault words (contents_of words) ≡ Some e → content_fault words ≡ Some e
  at-regions e a b c d h = to_placed a b c d ∙ first-some (regions_fault words (contents_of words)) _ e h

  pub at-padding : (o : Option FileFault) → sequence_part words ≡ None → directories_fault words (contents_of words).code ≡ None → all_names_fault words ≡ None → placed_part words ≡ None
      → regions_fault words (contents_of words) ≡ None → padding_fault words ≡ o → content_fault words ≡ o
  at-padding o a b c d f h = to_placed a b c d ∙ first-none (regions_fault words (contents_of words)) _ f ∙ first-last (padding_fault words) ∙ h

  pub whole_content : count_fault (counts_in words) ≡ None → sequence_part words ≡ None → directories_fault words (contents_of words).code ≡ None → all_names_fault words ≡ None → placed_part words ≡ None
      → regions_fault words (contents_of words) ≡ None → padding_fault words ≡ None → is_whole (contents_of words) ≡ true
  whole_content k a b c d f h =
      let p = first_none (places_fault (contents_of words)) (start_fault (contents_of words) ∷ []) d in
      let s = first_none (start_fault (contents_of words)) [] p.1 in
      whole_words words (counts_fit (counts_in words) k)
      (record { sequence = option_none fault.Sequence (seq_fault (contents_of words).code) a; directories = b; names = c; places = p.0; start = s.0; regions = f; padding = h })

pub none-some : {X : Type 0} (o : Option X) → o ≡ None → IsSome o → ⊥
none-some None h s = cc
none-some (Some x) h s = cc

three-some : {X : Type 0} (a b c r : Option X) (x : X) → or_else a (or_else b c) ≡ Some x → or_else a (or_else b (or_else c r)) ≡ Some x
three-some (Some y) b c r x h = h
three-some None (Some y) c r x h = h
three-some None None (Some y) r x h = h
three-some None None None r x h = cc

three-none : {X : Type 0} (a b c r : Option X) → or_else a (or_else b c) ≡ None → or_else a (or_else b (or_else c r)) ≡ r
three-none (Some y) b c r h = cc
three-none None (Some y) c r h = cc
three-none None None (Some y) r h = cc
three-none None None None r h = refl

-- the whole first fault
pub begun-some : (bytes : List ℕ) (e : FileFault) → begun_fault bytes ≡ Some e → first_fault bytes ≡ Some e
unfolding first_fault
begun-some bytes e h = three-some (front_fault bytes) (digest_fault bytes) (count_fault (counts_in (words_of bytes))) (content_fault (words_of bytes)) e h

pub begun-none : (bytes words : List ℕ) (o : Option FileFault) → words ≡ words_of bytes → begun_fault bytes ≡ None → content_fault words ≡ o → first_fault bytes ≡ o
unfolding first_fault
begun-none bytes words o same h c =
    three-none (front_fault bytes) (digest_fault bytes) (count_fault (counts_in (words_of bytes))) (content_fault (words_of bytes)) h ∙ ap content_fault (sym same) ∙ c

-- what the views of bytes stand on in which nothing is wrong but perhaps their digest
pub record UncheckedParts (words : List ℕ) : Type 0 where
  pub sound : IsTrue (is_sound (contents_of words).code)
  pub directories : directories_fault words (contents_of words).code ≡ None
  pub names : all_names_fault words ≡ None
  pub regions : regions_fault words (contents_of words) ≡ None
  pub whole : IsTrue (is_whole (contents_of words))

pub unchecked_parts : (bytes words : List ℕ) → words ≡ words_of bytes → LacksOnlyDigest bytes → UncheckedParts words
unchecked_parts bytes words same h =
    let fits = content_fits (words_of bytes) h.content in
    let whole = whole_words (words_of bytes) (counts_fit (counts_in (words_of bytes)) h.counts) fits in
    let parts : UncheckedParts (words_of bytes) = record {
      sound = whole_sound (contents_of (words_of bytes)) whole;
      directories = fits.directories;
      names = fits.names;
      regions = fits.regions;
      whole = whole;
    } in
    subst UncheckedParts (sym same) parts
