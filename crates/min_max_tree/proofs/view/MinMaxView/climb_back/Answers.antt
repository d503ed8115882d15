use Rattle.std.specs.Prelude.{pos, ◌-ℤ◌}
use Rattle.std.proofs.Common.{rules, arith, ◌+◌, ◌/◌, length, subst}
use Rattle.bit_words.specs.Bits.{excess}
use Rattle.bit_words.proofs.DigitLaws.{digits-mono, digits-half}
use Rattle.min_max_tree.specs.MinMaxView.{searched}
use Rattle.min_max_tree.specs.Tree.{node_from}
use Rattle.min_max_tree.specs.Level.{IsLevel}
use Rattle.min_max_tree.proofs.Nodes.{parent-there, node-there}
use Rattle.min_max_tree.proofs.Levels.{size-le}
use Rattle.min_max_tree.proofs.Backs.{back_found, join_remains, from-up}
use Rattle.min_max_tree.proofs.view.MinMaxView.climb_back.Goals as goal

pub loop-j-init : goal.loop-j-init
loop-j-init g c = record {
  level = c.lowest-level.ensures.level _;
  within = search rules;
  order = search rules;
  remains = search rules;
  grows = search rules;
  steps = search rules;
  height = search rules;
}

pub sibling_back-requires-clause-small : goal.sibling_back-requires-clause-small
sibling_back-requires-clause-small g c =
    let len = length (searched c.args.self.now) in
    let t = node-there len 0 c.args.block c.requires.within in
    omega (arith, t, c.loop-j.invariant.remains.few, c.args.self.now.few, c.requires.small)

pub returns-in-Reached-clause-found : goal.returns-in-Reached-clause-found
returns-in-Reached-clause-found g c =
    let bits = searched c.args.self.now in
    let i = c.loop-j.invariant in
    let s = c.in-Reached.ensures.sibling in
    back_found bits c.loop-j.level (node_from 0 c.args.block) c.loop-j.j c.args.need c.loop-j.left i.level i.order i.remains s.0 i.within s.1

pub returns-in-Reached-clause-low : goal.returns-in-Reached-clause-low
returns-in-Reached-clause-low g c =
    let len = length (searched c.args.self.now) in
    let s = size-le len 0 in
    let d = digits-mono c.args.block len (omega (arith, s, c.requires.within)) in
    omega (arith, d, c.loop-j.invariant.height)

pub returns-in-Reached-clause-cost : goal.returns-in-Reached-clause-cost
returns-in-Reached-clause-cost g c =
    let len = length (searched c.args.self.now) in
    let s = size-le len 0 in
    let d = digits-mono c.args.block len (omega (arith, s, c.requires.within)) in
    let e = digits-half c.loop-j.j (omega arith) in
    omega (arith, d, e, c.loop-j.invariant.steps, c.sibling_back.ensures.cost)

pub returns-clause-cost : goal.returns-clause-cost
returns-clause-cost g c =
    let len = length (searched c.args.self.now) in
    let s = size-le len 0 in
    let d = digits-mono c.args.block len (omega (arith, s, c.requires.within)) in
    omega (arith, d, c.loop-j.invariant.steps)

pub loop-j-preserved : goal.loop-j-preserved
loop-j-preserved g c =
    let bits = searched c.args.self.now in
    let len = length bits in
    let h = c.loop-j.level.height in
    let j = c.loop-j.j in
    let i = c.loop-j.invariant in
    let high = node_from 0 c.args.block in
    let up = from-up h j in
    let e = c.above-level.ensures.height in
    let d = digits-half j (omega arith) in
    record {
      level = subst (λ n. IsLevel n c.above-level.result) c.len-len.ensures c.above-level.ensures.level;
      within = rw e (parent-there len h j i.within);
      order = rw e (omega (arith, up, i.order));
      remains = rw e (join_remains bits (excess bits high -ℤ pos c.args.need) (node_from h j) high c.args.need c.loop-j.left i.remains i.order (node_from (h + 1) (j / 2)) c.in-Passed.more up c.in-Passed.ensures.sibling);
      grows = omega arith;
      steps = omega (arith, d, i.steps, c.sibling_back.ensures.cost);
      height = omega (arith, d, e, i.height);
    }
