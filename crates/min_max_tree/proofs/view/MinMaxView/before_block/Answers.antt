use Rattle.std.specs.Prelude.{pos, ◌+ℤ◌}
use Rattle.std.proofs.Common.{arith, length, subst, ap, ◌*◌, sym, ◌∙◌, ◌<◌}
use Rattle.bit_words.specs.Bits.{excess}
use Rattle.min_max_tree.specs.MinMaxView.{searched}
use Rattle.min_max_tree.specs.Tree.{size_at, node_from}
use Rattle.min_max_tree.specs.Level.{IsLevel}
use Rattle.min_max_tree.proofs.Climb.{block_from}
use Rattle.min_max_tree.proofs.Rises.{rise-bounds, more-nodes, half-within, digits-fall, rise-end}
use Rattle.min_max_tree.proofs.view.MinMaxView.before_block.Goals as goal

pub loop-j-init : goal.loop-j-init
loop-j-init g c =
    let bits = searched c.args.self.now in
    let e = ap (λ h. node_from h c.args.block) c.lowest-level.ensures.height ∙ block_from c.args.block in
    record {
      level = c.lowest-level.ensures.level _;
      within = rw e c.requires.within;
      rise = ap (λ x. excess bits x +ℤ pos 1099511627776) e;
      grows = omega arith;
      steps = omega arith;
    }

pub above-level-requires-clause-more : goal.above-level-requires-clause-more
above-level-requires-clause-more g c =
    let bits = searched c.args.self.now in
    let m = more-nodes (length bits) c.loop-j.level.height c.loop-j.j (omega arith) c.loop-j.invariant.within in
    subst (λ n. 1 < size_at n c.loop-j.level.height) (sym c.len-len.ensures) m

pub loop-j-preserved : goal.loop-j-preserved
loop-j-preserved g c =
    let bits = searched c.args.self.now in
    let i = c.loop-j.invariant in
    let h = c.loop-j.level.height in
    let e = c.above-level.ensures.height in
    let d = digits-fall c.loop-j.j in
    record {
      level = subst (λ n. IsLevel n c.above-level.result) c.len-len.ensures c.above-level.ensures.level;
      within = rw e (half-within (length bits) h c.loop-j.j i.within);
      rise = rw e (c.add_left-rise.ensures.rise ∙ i.rise);
      grows = omega arith;
      steps = omega arith;
    }

pub add_left-rise-requires-clause-low : goal.add_left-rise-requires-clause-low
add_left-rise-requires-clause-low g c =
    (rise-bounds (searched c.args.self.now) (node_from c.loop-j.level.height c.loop-j.j) (512 * c.args.block) c.loop-j.rise c.args.self.now.few c.loop-j.invariant.within c.requires.within c.loop-j.invariant.rise).0

pub add_left-rise-requires-clause-high : goal.add_left-rise-requires-clause-high
add_left-rise-requires-clause-high g c =
    (rise-bounds (searched c.args.self.now) (node_from c.loop-j.level.height c.loop-j.j) (512 * c.args.block) c.loop-j.rise c.args.self.now.few c.loop-j.invariant.within c.requires.within c.loop-j.invariant.rise).1

pub add_left-requires-clause-low : goal.add_left-requires-clause-low
add_left-requires-clause-low g c =
    (rise-bounds (searched c.args.self.now) (node_from c.loop-j.level.height c.loop-j.j) (512 * c.args.block) c.loop-j.rise c.args.self.now.few c.loop-j.invariant.within c.requires.within c.loop-j.invariant.rise).0

pub add_left-requires-clause-high : goal.add_left-requires-clause-high
add_left-requires-clause-high g c =
    (rise-bounds (searched c.args.self.now) (node_from c.loop-j.level.height c.loop-j.j) (512 * c.args.block) c.loop-j.rise c.args.self.now.few c.loop-j.invariant.within c.requires.within c.loop-j.invariant.rise).1

pub returns-clause-value : goal.returns-clause-value
returns-clause-value g c =
    rise-end (searched c.args.self.now) c.loop-j.level.height c.loop-j.j c.loop-j.rise c.add_left.result (512 * c.args.block) (omega arith) c.add_left.ensures.rise c.loop-j.invariant.rise

pub returns-clause-cost : goal.returns-clause-cost
returns-clause-cost g c =
    let d = digits-fall c.loop-j.j in
    let s = c.loop-j.invariant.steps in
    let k = c.add_left.ensures.cost in
    omega arith
