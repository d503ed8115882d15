use Rattle.std.specs.Prelude.{◌+◌, Bool, List}
use Rattle.std.proofs.Common.{ap, ◌∙◌}
use Rattle.bit_words.specs.Packed.{PackedList}
use Rattle.rank_select.specs.Counts.{counts_of}
use Rattle.min_max_tree.specs.Tree.{nodes_of}
use Rattle.pemb_file.proofs.Grown.{ok_then, both, bits-in, fields-in, words-in}
use Rattle.pemb_file.proofs.writing.push_parens.Goals as goal

counts_at : List Bool → PackedList
counts_at bits = record { width = 32; items = counts_of bits }

pub returns : goal.returns
unfolding counts_at
returns c =
    ok_then c.push_words-3.result
    (λ e number.
    both c.args.image.now.items c.push_words.new.image.items c.push_words-3.new.image.items _ _
    (bits-in number c.args.image.now.items c.push_words.new.image.items c.deref.result.now c.finish.result.items c.deref.ensures.value c.push_words.ensures.below c.in_ok-push_words.ensures.bytes
    c.in_ok-maker.maker c.args.bits.now c.requires c.in_ok-maker.ensures c.finish.ensures.holds)
    (both c.push_words.new.image.items c.push_words-2.new.image.items c.push_words-3.new.image.items _ _
    (fields-in (number + 1) c.push_words.new.image.items c.push_words-2.new.image.items c.deref-2.result.now c.finish-counts.result.items c.deref-2.ensures.value c.push_words-2.ensures.below c.in_ok-push_words-2.ensures.bytes
    (counts_of c.args.bits.now) c.in_ok-make_counts.field-0 (c.in_ok-make_counts.ensures ∙ ap counts_at c.in_ok-maker.ensures) c.finish-counts.ensures.packs c.finish-counts.ensures.fields)
    (words-in (number + 2) c.push_words-2.new.image.items c.push_words-3.new.image.items c.deref-3.result.now c.in_ok-nodes.nodes.items c.deref-3.ensures.value c.push_words-3.ensures.below e
    (nodes_of c.args.bits.now) (c.in_ok-nodes.ensures ∙ ap nodes_of c.in_ok-maker.ensures))))
    c.push_words-3.ensures.bytes
