use Rattle.std.specs.Prelude.{length, ◌+◌}
use Rattle.rank_select.specs.Counts.{counts_of}
use Rattle.id_names.specs.Making.{place_width}
use Rattle.file_laws.specs.Layout.{low_width}
use Rattle.file_laws.specs.Image.{names_for}
use Rattle.pemb_file.proofs.Grown.{ok_then, both, bits-in, sized-in}
use Rattle.pemb_file.proofs.NameSizes.{high_bits, mark_bits}
use Rattle.std.proofs.Common.{refl}
use Rattle.pemb_file.proofs.writing.push_names.Goals as goal

pub returns : goal.returns
returns c =
    ok_then c.push_words-7.result
    (λ e form number ids h.
    both c.args.image.now.items c.push_words.new.image.items c.push_words-7.new.image.items _ _
    (bits-in (number + 1) c.args.image.now.items c.push_words.new.image.items c.deref.result.now c.args.names.high.items c.deref.ensures.value c.push_words.ensures.below c.in_ok-push_words.ensures.bytes
    (names_for form ids).high (names_for form ids).high (high_bits form ids h.named) refl h.high)
    (both c.push_words.new.image.items c.push_words-2.new.image.items c.push_words-7.new.image.items _ _
    (sized-in (number + 1 + 1) c.push_words.new.image.items c.push_words-2.new.image.items c.deref-2.result.now c.args.names.high_counts.items c.deref-2.ensures.value c.push_words-2.ensures.below c.in_ok-push_words-2.ensures.bytes
    32 (counts_of (names_for form ids).high) h.high_counts)
    (both c.push_words-2.new.image.items c.push_words-3.new.image.items c.push_words-7.new.image.items _ _
    (sized-in (number + 3) c.push_words-2.new.image.items c.push_words-3.new.image.items c.deref-3.result.now c.args.names.lows.items c.deref-3.ensures.value c.push_words-3.ensures.below c.in_ok-push_words-3.ensures.bytes
    (low_width form (length ids)) (names_for form ids).lows h.lows)
    (both c.push_words-3.new.image.items c.push_words-4.new.image.items c.push_words-7.new.image.items _ _
    (sized-in (number + 4) c.push_words-3.new.image.items c.push_words-4.new.image.items c.deref-4.result.now c.args.names.places.items c.deref-4.ensures.value c.push_words-4.ensures.below c.in_ok-push_words-4.ensures.bytes
    (place_width (length ids)) (names_for form ids).places h.places)
    (both c.push_words-4.new.image.items c.push_words-5.new.image.items c.push_words-7.new.image.items _ _
    (bits-in (number + 5) c.push_words-4.new.image.items c.push_words-5.new.image.items c.deref-5.result.now c.args.names.marks.items c.deref-5.ensures.value c.push_words-5.ensures.below c.in_ok-push_words-5.ensures.bytes
    (names_for form ids).marks (names_for form ids).marks (mark_bits form ids h.named) refl h.marks)
    (both c.push_words-5.new.image.items c.push_words-6.new.image.items c.push_words-7.new.image.items _ _
    (sized-in (number + 5 + 1) c.push_words-5.new.image.items c.push_words-6.new.image.items c.deref-6.result.now c.args.names.mark_counts.items c.deref-6.ensures.value c.push_words-6.ensures.below c.in_ok-push_words-6.ensures.bytes
    32 (counts_of (names_for form ids).marks) h.mark_counts)
    (sized-in (number + 7) c.push_words-6.new.image.items c.push_words-7.new.image.items c.deref-7.result.now c.args.names.back.items c.deref-7.ensures.value c.push_words-7.ensures.below e
    (place_width (length ids)) (names_for form ids).back h.back)))))))
    c.push_words-7.ensures.bytes
