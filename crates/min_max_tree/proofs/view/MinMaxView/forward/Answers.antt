use Rattle.std.specs.Prelude.{pos, ◌-ℤ◌}
use Rattle.std.proofs.Common.{arith, ◌≡◌, ◌+◌, ◌*◌, ◌/◌, length, ap, ◌∙◌, min, sym, subst}
use Rattle.bit_words.specs.Bits.{excess}
use Rattle.bit_words.proofs.DigitLaws.{digits-mono}
use Rattle.min_max_tree.specs.MinMaxView.{searched}
use Rattle.min_max_tree.specs.Search.{Rests}
use Rattle.min_max_tree.specs.Tree.{node_to}
use Rattle.min_max_tree.proofs.Climb.{block_there, block_to, next_after, too_deep}
use Rattle.min_max_tree.proofs.view.MinMaxView.forward.Goals as goal

pub after-requires-clause-within : goal.after-requires-clause-within
after-requires-clause-within g c =
    let e = c.len-len.ensures in
    block_there (length (searched c.args.self.now)) c.args.i (omega arith)

pub returns-in-Above-clause-cost : goal.returns-in-Above-clause-cost
returns-in-Above-clause-cost g c =
    let len = length (searched c.args.self.now) in
    let d = digits-mono len (len + 2) (omega arith) in
    omega arith

pub returns-in-Above-clause-next : goal.returns-in-Above-clause-next
returns-in-Above-clause-next g c =
    let bits = searched c.args.self.now in
    let len = length bits in
    let e = c.len-len.ensures in
    let b : c.min-end.result ≡ node_to len 0 (c.args.i / 512) = c.min-end.ensures ∙ ap (λ n. min n (512 * (c.args.i / 512 + 1))) e ∙ sym (block_to len (c.args.i / 512)) in
    let t = block_to len (c.args.i / 512) in
    let r = subst (λ x. Rests bits (excess bits c.args.i -ℤ pos c.args.drop) c.args.i x c.args.drop c.in-Above.need) b c.in-Above.ensures.scanned in
    next_after bits c.args.i c.args.drop (node_to len 0 (c.args.i / 512)) c.in-Above.need c.after.result (omega arith) (omega arith) r c.after.ensures.found c.after.ensures.none

pub returns-then-drop-len-clause-next : goal.returns-then-drop-len-clause-next
returns-then-drop-len-clause-next g c =
    let e = c.len-len.ensures in
    too_deep (searched c.args.self.now) c.args.i c.args.drop c.requires.within (omega arith)
