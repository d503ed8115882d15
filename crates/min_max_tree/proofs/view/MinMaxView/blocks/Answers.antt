use Rattle.std.proofs.Common.{arith, length, subst, sym, ap, ◌≡◌, ◌<◌, ◌+◌, ◌-◌, ◌*◌, ◌%◌, ◌/◌}
use Rattle.bit_words.proofs.DigitLaws.{digits-half}
use Rattle.min_max_tree.specs.MinMaxView.{searched}
use Rattle.min_max_tree.specs.Node.{IsRun}
use Rattle.min_max_tree.specs.Level.{IsLevel}
use Rattle.min_max_tree.specs.Tree.{size_at, node_from}
use Rattle.min_max_tree.proofs.Rises.{more-nodes}
use Rattle.min_max_tree.proofs.Runs.{run-none, runs-joinable, run-joined}
use Rattle.min_max_tree.proofs.Between.{from-le, block-from, up-from, left-up, right-up}
use Rattle.min_max_tree.proofs.view.MinMaxView.blocks.Goals as goal

pub loop-low-init : goal.loop-low-init
loop-low-init g c =
    let bits = searched c.args.self.now in
    let e = c.lowest-level.ensures.height in
    let a = block-from c.lowest-level.result.height c.args.first e in
    let b = block-from c.lowest-level.result.height c.args.last e in
    record {
      level = c.lowest-level.ensures.level _;
      some = c.requires.some;
      order = c.requires.order;
      first = omega arith;
      last = omega arith;
      left = rw (a, c.empty-left.ensures) (run-none bits (512 * c.args.first));
      right = rw (b, c.empty-right.ensures) (run-none bits (512 * c.args.last));
      grows = omega arith;
      steps = omega arith;
    }

pub joined-left-requires : goal.joined-left-requires
joined-left-requires g c =
    let bits = searched c.args.self.now in
    let i = c.loop-low.invariant in
    let h = c.loop-low.level.height in
    let low = c.loop-low.low in
    let end = from-le h (low + low % 2) c.loop-low.high (omega arith) in
    runs-joinable bits (512 * c.args.first) (node_from h low) (node_from h (low + low % 2)) c.loop-low.left c.one_or_none.result i.first (from-le h low (low + low % 2) (omega arith)) i.left c.one_or_none.ensures.run c.args.self.now.few (omega (arith, end, i.last, c.requires.within))

pub joined-right-requires : goal.joined-right-requires
joined-right-requires g c =
    let bits = searched c.args.self.now in
    let i = c.loop-low.invariant in
    let h = c.loop-low.level.height in
    let high = c.loop-low.high in
    runs-joinable bits (node_from h (high - high % 2)) (node_from h high) (512 * c.args.last) c.one_or_none-in-loop-low.result c.loop-low.right (from-le h (high - high % 2) high (omega arith)) i.last c.one_or_none-in-loop-low.ensures.run i.right c.args.self.now.few c.requires.within

pub above-level-requires-clause-more : goal.above-level-requires-clause-more
above-level-requires-clause-more g c =
    let len = length (searched c.args.self.now) in
    let i = c.loop-low.invariant in
    let h = c.loop-low.level.height in
    subst (λ n. 1 < size_at n h) (sym c.len-len.ensures) (more-nodes len h c.loop-low.high (omega arith) (omega (arith, i.last, c.requires.within)))

pub loop-low-preserved : goal.loop-low-preserved
loop-low-preserved g c =
    let bits = searched c.args.self.now in
    let i = c.loop-low.invariant in
    let h = c.loop-low.level.height in
    let low = c.loop-low.low in
    let high = c.loop-low.high in
    let up = c.div_ceil-low.result in
    let e = c.above-level.ensures.height in
    let f : 2 * up ≡ low + low % 2 = omega arith in
    let end = from-le h (low + low % 2) high (omega arith) in
    let p = up-from h (low + low % 2) up f in
    let q = up-from h (high - high % 2) (high / 2) (omega arith) in
    let a = from-le h low (low + low % 2) (omega arith) in
    let b = from-le h (high - high % 2) high (omega arith) in
    let d = digits-half high (omega arith) in
    record {
      level = subst (λ n. IsLevel n c.above-level.result) c.len-len.ensures c.above-level.ensures.level;
      some = omega arith;
      order = omega arith;
      first = rw e (omega (arith, p, a, i.first));
      last = rw e (omega (arith, q, b, i.last));
      left = left-up bits (512 * c.args.first) h low c.above-level.result.height up c.loop-low.left c.one_or_none.result c.joined-left.result c.args.self.now.few i.first (omega (arith, end, i.last, c.requires.within)) i.left c.one_or_none.ensures.run e f c.joined-left.ensures;
      right = right-up bits (512 * c.args.last) h high c.above-level.result.height c.one_or_none-in-loop-low.result c.loop-low.right c.joined-right.result c.args.self.now.few i.last c.requires.within c.one_or_none-in-loop-low.ensures.run i.right e c.joined-right.ensures;
      grows = omega arith;
      steps = omega (arith, d, i.steps, c.one_or_none.ensures.cost, c.one_or_none-in-loop-low.ensures.cost);
    }

pub joined-requires : goal.joined-requires
joined-requires g c =
    let bits = searched c.args.self.now in
    let i = c.loop-low.invariant in
    let h = c.loop-low.level.height in
    let e : c.loop-low.high ≡ c.loop-low.low = omega arith in
    let p : node_from h c.loop-low.high ≡ node_from h c.loop-low.low = ap (node_from h) e in
    let r = subst (λ x. IsRun bits x (512 * c.args.last) c.loop-low.right) p i.right in
    runs-joinable bits (512 * c.args.first) (node_from h c.loop-low.low) (512 * c.args.last) c.loop-low.left c.loop-low.right i.first (omega (arith, p, i.last)) i.left r c.args.self.now.few c.requires.within

pub returns-clause-run : goal.returns-clause-run
returns-clause-run g c =
    let bits = searched c.args.self.now in
    let i = c.loop-low.invariant in
    let h = c.loop-low.level.height in
    let e : c.loop-low.high ≡ c.loop-low.low = omega arith in
    let p : node_from h c.loop-low.high ≡ node_from h c.loop-low.low = ap (node_from h) e in
    let r = subst (λ x. IsRun bits x (512 * c.args.last) c.loop-low.right) p i.right in
    rw c.joined.ensures (run-joined bits (512 * c.args.first) (node_from h c.loop-low.low) (512 * c.args.last) c.loop-low.left c.loop-low.right i.first (omega (arith, p, i.last)) i.left r c.args.self.now.few c.requires.within)
