use Rattle.std.specs.Prelude.{pos, ◌-ℤ◌}
use Rattle.std.proofs.Common.{arith, ◌+◌, ◌-◌, ◌/◌, length, sym, subst}
use Rattle.bit_words.specs.Bits.{excess}
use Rattle.bit_words.proofs.DigitLaws.{digits-mono}
use Rattle.min_max_tree.specs.MinMaxView.{searched}
use Rattle.min_max_tree.specs.SearchBack.{Remains}
use Rattle.min_max_tree.specs.Tree.{node_from}
use Rattle.min_max_tree.proofs.Climb.{block_there}
use Rattle.min_max_tree.proofs.Backs.{block_start, last_before, too_deep_back}
use Rattle.min_max_tree.proofs.view.MinMaxView.backward.Goals as goal

pub earlier-requires-clause-within : goal.earlier-requires-clause-within
earlier-requires-clause-within g c =
    block_there (length (searched c.args.self.now)) (c.args.i - 1) (omega arith)

pub returns-then-drop-len-clause-last : goal.returns-then-drop-len-clause-last
returns-then-drop-len-clause-last g c =
    let e = c.len.ensures in
    too_deep_back (searched c.args.self.now) c.args.i c.args.drop c.requires.within (omega arith)

pub returns-in-Above-clause-last : goal.returns-in-Above-clause-last
returns-in-Above-clause-last g c =
    let bits = searched c.args.self.now in
    let block = (c.args.i - 1) / 512 in
    let b = block_start block in
    let r = subst (λ x. Remains bits (excess bits c.args.i -ℤ pos c.args.drop) x c.args.i c.args.drop c.in-Above.need) (sym b) c.in-Above.ensures.scanned in
    last_before bits c.args.i c.args.drop (node_from 0 block) c.in-Above.need c.earlier.result (omega arith) r c.earlier.ensures.found c.earlier.ensures.none

pub returns-in-Above-clause-cost : goal.returns-in-Above-clause-cost
returns-in-Above-clause-cost g c =
    let len = length (searched c.args.self.now) in
    let d = digits-mono len (len + 2) (omega arith) in
    omega (arith, d, c.earlier.ensures.cost, c.in-Above.ensures.cost)
