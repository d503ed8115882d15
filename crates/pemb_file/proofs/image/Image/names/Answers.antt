use Rattle.std.proofs.Common.{◌≡◌, ◌+◌, ◌^◌, ap, sym, ◌∙◌, arith, refl, true}
use Rattle.bit_words.specs.WordView.{words_of}
use Rattle.bit_words.specs.Digits.{digits}
use Rattle.rank_select.specs.Counts.{blocks}
use Rattle.file_laws.specs.Layout.{counts_in}
use Rattle.file_laws.proofs.Rooms.{bits_some, few_digits}
use Rattle.pemb_file.specs.Kinds.{has_bits, has_fields}
use Rattle.pemb_file.proofs.KindLaws.{each_named, name_sizes, names-few}
use Rattle.pemb_file.proofs.NameParts.{names-are, fault-is}
use Rattle.pemb_file.proofs.image.Image.names.Goals as goal

pub bits-requires : goal.bits-requires
bits-requires c = each_named (λ n. has_bits (n + 1) ≡ true) refl refl refl refl c.args.number c.requires

pub fields-requires : goal.fields-requires
fields-requires c = each_named (λ n. has_fields (n + 2) ≡ true) refl refl refl refl c.args.number c.requires

pub fields-requires-2 : goal.fields-requires-2
fields-requires-2 c = each_named (λ n. has_fields (n + 3) ≡ true) refl refl refl refl c.args.number c.requires

pub fields-requires-3 : goal.fields-requires-3
fields-requires-3 c = each_named (λ n. has_fields (n + 4) ≡ true) refl refl refl refl c.args.number c.requires

pub bits-requires-2 : goal.bits-requires-2
bits-requires-2 c = each_named (λ n. has_bits (n + 5) ≡ true) refl refl refl refl c.args.number c.requires

pub fields-requires-4 : goal.fields-requires-4
fields-requires-4 c = each_named (λ n. has_fields (n + 6) ≡ true) refl refl refl refl c.args.number c.requires

pub fields-requires-5 : goal.fields-requires-5
fields-requires-5 c = each_named (λ n. has_fields (n + 7) ≡ true) refl refl refl refl c.args.number c.requires

pub returns-clause-names : goal.returns-clause-names
returns-clause-names c = (names-are (words_of c.args.self.now.words) c.args.number _ _ _ _ _ _ c.bits.ensures.bits c.fields-2.ensures.fields c.fields-2.ensures.width c.fields-3.ensures.fields c.bits-2.ensures.bits c.fields-5.ensures.fields)

pub returns-clause-fault : goal.returns-clause-fault
returns-clause-fault c = fault-is (words_of c.args.self.now.words) c.args.number _ _ _ (names-are (words_of c.args.self.now.words) c.args.number _ _ _ _ _ _ c.bits.ensures.bits c.fields-2.ensures.fields c.fields-2.ensures.width c.fields-3.ensures.fields c.bits-2.ensures.bits c.fields-5.ensures.fields) c.fields.ensures.fields c.fields-4.ensures.fields

pub returns-clause-sizes : goal.returns-clause-sizes
returns-clause-sizes c =
    let k = counts_in (words_of c.args.self.now.words) in
    let s = name_sizes k c.args.number c.requires in
    let few = names-few k c.args.number c.args.self.now.few c.requires in
    let places = c.fields-3.ensures.len in
    let d = few_digits _ few in
    let b = bits_some k.form in
    let same = ap digits places in
    record {
      few = omega (arith, few, places);
      some = omega (arith, s.low, c.fields-2.ensures.width);
      narrow = omega (arith, s.low, c.fields-2.ensures.width, d, b.1, same);
      high = c.bits.ensures.len ∙ s.high ∙ ap (λ m. m + 2 ^ digits m) (sym places);
      high_counts = c.fields.ensures.len ∙ s.high_counts ∙ ap (λ m. blocks m + 1) (sym c.bits.ensures.len);
      high_width = c.fields.ensures.width ∙ s.high_width;
      lows = c.fields-2.ensures.len ∙ s.lows ∙ sym places;
      marks = c.bits-2.ensures.len ∙ s.marks ∙ sym places;
      mark_counts = c.fields-4.ensures.len ∙ s.mark_counts ∙ ap (λ m. blocks m + 1) (sym c.bits-2.ensures.len);
      mark_width = c.fields-4.ensures.width ∙ s.mark_width;
    }
