-- The sizes of the parts of names that are made.
use Rattle.std.specs.Prelude.{slice_index}
use Rattle.std.proofs.Common.{◌≡◌, ℕ, ◌+◌, ◌^◌, ◌<◌, ◌≤◌, List, length, sym, subst, arith}
use Rattle.bit_words.specs.Digits.{digits}
use Rattle.id_names.proofs.DigitBounds.{power_few}
use Rattle.id_names.proofs.HighLaws.{length-high}
use Rattle.id_names.proofs.MadeSizes.{length-lows, length-places, length-made_marks}
use Rattle.file_laws.specs.Layout.{low_width}
use Rattle.file_laws.specs.Image.{names_for}
use Rattle.file_laws.proofs.Rooms.{bits_are}
use Rattle.pemb_file.specs.Written.{AreNamed}

module _ (form : ℕ) (ids : List ℕ) (n : AreNamed form ids) where
  -- the parts that are made have these sizes
  pub record HaveSizes : Type 0 where
    pub high : length (names_for form ids).high ≡ length ids + 2 ^ digits (length ids)
    pub lows : length (names_for form ids).lows ≡ length ids
    pub places : length (names_for form ids).places ≡ length ids
    pub marks : length (names_for form ids).marks ≡ length ids

  pub have_sizes : HaveSizes
  have_sizes =
      let low = low_width form (length ids) in
      let e = sym (bits_are form (length ids) n.few) in
      record {
        high = length-high low ids (λ k l. subst (λ b. slice_index ids k < 2 ^ b) e (n.distinct.in_range k l).1);
        lows = length-lows low ids;
        places = length-places low ids;
        marks = length-made_marks low ids;
      }

  -- so few bits
  pub high_bits : length (names_for form ids).high ≤ 2147483647
  high_bits = let high = have_sizes.high in let power = power_few (length ids) in omega (arith, n.few, high, power)

  pub mark_bits : length (names_for form ids).marks ≤ 2147483647
  mark_bits = let marks = have_sizes.marks in omega (arith, n.few, marks)
