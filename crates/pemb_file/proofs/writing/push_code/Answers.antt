use Rattle.std.specs.Prelude.{◌≤◌, length, true, false}
use Rattle.std.proofs.Common.{refl, arith, subst}
use Rattle.rank_select.specs.Counts.{counts_of}
use Rattle.min_max_tree.specs.Tree.{nodes_of}
use Rattle.code_laws.specs.Code.{Code}
use Rattle.code_laws.specs.Tour.{code_of}
use Rattle.turan_code.specs.CodeWords.{AreWordsOf}
use Rattle.pemb_file.proofs.Grown.{ok_then, both, bits-in, held-in, words-in}
use Rattle.turan_code.proofs.Picked.{length_picked}
use Rattle.pemb_file.proofs.MadeCode.{same_walk}
use Rattle.pemb_file.proofs.writing.push_code.Goals as goal

pub returns : goal.returns
returns c =
    let tree = c.args.parts.now.tree.items in
    let first = c.args.parts.now.first.items in
    let k : Code = code_of tree first c.args.parts.now.starts.items in
    let h : AreWordsOf k c.in_ok-code.code = subst (λ (x : Code). AreWordsOf x c.in_ok-code.code) (same_walk _ _ _ _ _ _ c.deref.ensures.value c.deref-2.ensures.value c.deref-3.ensures.value) c.in_ok-code.ensures in
    let few : length k.a ≤ 2147483647 = c.requires.few in
    let few_tree : length k.tree ≤ 2147483647 = let l = length_picked true tree first in omega (arith, few, l) in
    let few_dual : length k.dual ≤ 2147483647 = let l = length_picked false tree first in omega (arith, few, l) in
    ok_then c.push_words-9.result
    (λ e.
    both c.args.image.now.items c.push_words.new.image.items c.push_words-9.new.image.items _ _
    (bits-in 1 c.args.image.now.items c.push_words.new.image.items c.deref-4.result.now c.in_ok-code.code.a.items c.deref-4.ensures.value c.push_words.ensures.below c.in_ok-push_words.ensures.bytes
    (k.a) (k.a) few refl h.a)
    (both c.push_words.new.image.items c.push_words-2.new.image.items c.push_words-9.new.image.items _ _
    (held-in 2 c.push_words.new.image.items c.push_words-2.new.image.items c.deref-5.result.now c.in_ok-code.code.a_counts.items c.deref-5.ensures.value c.push_words-2.ensures.below c.in_ok-push_words-2.ensures.bytes
    (counts_of k.a) h.a_counts.packs h.a_counts.fields)
    (both c.push_words-2.new.image.items c.push_words-3.new.image.items c.push_words-9.new.image.items _ _
    (bits-in 3 c.push_words-2.new.image.items c.push_words-3.new.image.items c.deref-6.result.now c.in_ok-code.code.b.items c.deref-6.ensures.value c.push_words-3.ensures.below c.in_ok-push_words-3.ensures.bytes
    (k.tree) (k.tree) few_tree refl h.b)
    (both c.push_words-3.new.image.items c.push_words-4.new.image.items c.push_words-9.new.image.items _ _
    (held-in 4 c.push_words-3.new.image.items c.push_words-4.new.image.items c.deref-7.result.now c.in_ok-code.code.b_counts.items c.deref-7.ensures.value c.push_words-4.ensures.below c.in_ok-push_words-4.ensures.bytes
    (counts_of k.tree) h.b_counts.packs h.b_counts.fields)
    (both c.push_words-4.new.image.items c.push_words-5.new.image.items c.push_words-9.new.image.items _ _
    (words-in 5 c.push_words-4.new.image.items c.push_words-5.new.image.items c.deref-8.result.now c.in_ok-code.code.b_tree.items c.deref-8.ensures.value c.push_words-5.ensures.below c.in_ok-push_words-5.ensures.bytes
    (nodes_of k.tree) h.b_tree)
    (both c.push_words-5.new.image.items c.push_words-6.new.image.items c.push_words-9.new.image.items _ _
    (bits-in 6 c.push_words-5.new.image.items c.push_words-6.new.image.items c.deref-9.result.now c.in_ok-code.code.dual.items c.deref-9.ensures.value c.push_words-6.ensures.below c.in_ok-push_words-6.ensures.bytes
    (k.dual) (k.dual) few_dual refl h.dual)
    (both c.push_words-6.new.image.items c.push_words-7.new.image.items c.push_words-9.new.image.items _ _
    (held-in 7 c.push_words-6.new.image.items c.push_words-7.new.image.items c.deref-10.result.now c.in_ok-code.code.dual_counts.items c.deref-10.ensures.value c.push_words-7.ensures.below c.in_ok-push_words-7.ensures.bytes
    (counts_of k.dual) h.dual_counts.packs h.dual_counts.fields)
    (both c.push_words-7.new.image.items c.push_words-8.new.image.items c.push_words-9.new.image.items _ _
    (words-in 8 c.push_words-7.new.image.items c.push_words-8.new.image.items c.deref-11.result.now c.in_ok-code.code.dual_tree.items c.deref-11.ensures.value c.push_words-8.ensures.below c.in_ok-push_words-8.ensures.bytes
    (nodes_of k.dual) h.dual_tree)
    (held-in 9 c.push_words-8.new.image.items c.push_words-9.new.image.items c.deref-12.result.now c.in_ok-code.code.starts.items c.deref-12.ensures.value c.push_words-9.ensures.below e
    (k.starts) h.starts.packs h.starts.fields)))))))))
    c.push_words-9.ensures.bytes
