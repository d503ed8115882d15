use Rattle.std.proofs.Common.{rules, arith, ◌≡◌, length, subst, ap, ◌-◌, ◌+◌, ◌∙◌}
use Rattle.std.specs.Prelude.{pos, ◌-ℤ◌}
use Rattle.bit_words.specs.Bits.{excess}
use Rattle.bit_words.specs.Digits.{digits}
use Rattle.min_max_tree.specs.Search.{StaysAbove}
use Rattle.min_max_tree.specs.MinMaxView.{searched}
use Rattle.min_max_tree.specs.Tree.{size_at, node_to}
use Rattle.min_max_tree.specs.Level.{IsLevel}
use Rattle.min_max_tree.proofs.Nodes.{top-end, parent-there, size-up}
use Rattle.min_max_tree.proofs.Climb.{climb_found, climb_on, parent-end-le, digits-some, climb_step, size-digits}
use Rattle.min_max_tree.proofs.view.MinMaxView.climb.Goals as goal

pub loop-level-init : goal.loop-level-init
loop-level-init g c = record {
  level = c.lowest-level.ensures.level _;
  within = search rules;
  order = search rules;
  rests = search rules;
  grows = search rules;
  steps = search rules;
  height = search rules;
}

pub returns-in-Reached-clause-found : goal.returns-in-Reached-clause-found
returns-in-Reached-clause-found g c =
    let bits = searched c.args.self.now in
    let i = c.loop-level.invariant in
    climb_found bits c.loop-level.level (node_to (length bits) 0 c.args.block) c.loop-level.j c.args.need c.loop-level.left i.level i.order i.rests c.in-Reached.ensures.sibling

pub returns-in-Reached-clause-low : goal.returns-in-Reached-clause-low
returns-in-Reached-clause-low g c =
    let d = size-digits (length (searched c.args.self.now)) in
    omega arith

pub returns-in-Reached-clause-cost : goal.returns-in-Reached-clause-cost
returns-in-Reached-clause-cost g c =
    let len = length (searched c.args.self.now) in
    let d = size-digits len in
    let e = c.size.ensures ∙ ap (λ n. size_at n c.loop-level.level.height) c.len-len.ensures in
    let s = digits-some (size_at len c.loop-level.level.height - 1) (omega arith) in
    omega arith

pub returns-clause-cost : goal.returns-clause-cost
returns-clause-cost g c =
    let d = size-digits (length (searched c.args.self.now)) in
    omega arith

pub returns-clause-none : goal.returns-clause-none
returns-clause-none g c =
    let bits = searched c.args.self.now in
    let i = c.loop-level.invariant in
    let z = c.size.ensures ∙ ap (λ n. size_at n c.loop-level.level.height) c.len-len.ensures in
    let e = top-end (length bits) c.loop-level.level.height c.loop-level.j (omega arith) in
    let low = node_to (length bits) 0 c.args.block in
    subst (λ x. StaysAbove bits (excess bits low -ℤ pos c.args.need) low x) e i.rests.stays

pub loop-level-smaller : goal.loop-level-smaller
loop-level-smaller g c =
    let len = length (searched c.args.self.now) in
    let h = c.loop-level.level.height in
    let z = c.size.ensures ∙ ap (λ n. size_at n c.loop-level.level.height) c.len-len.ensures in
    let u = size-up len h (omega arith) in
    let e : size_at len c.above-level.result.height ≡ size_at len (h + 1) = ap (size_at len) c.above-level.ensures.height in
    omega arith

pub loop-level-preserved : goal.loop-level-preserved
loop-level-preserved g c =
    let bits = searched c.args.self.now in
    let len = length bits in
    let h = c.loop-level.level.height in
    let j = c.loop-level.j in
    let i = c.loop-level.invariant in
    let low = node_to len 0 c.args.block in
    let up = parent-end-le len h j in
    let e = c.above-level.ensures.height in
    let z = c.size.ensures ∙ ap (λ n. size_at n c.loop-level.level.height) c.len-len.ensures in
    let d = climb_step len h (omega arith) in
    let es : digits (size_at len c.above-level.result.height - 1) ≡ digits (size_at len (h + 1) - 1) = ap (λ x. digits (size_at len x - 1)) e in
    record {
      level = subst (λ n. IsLevel n c.above-level.result) c.len-len.ensures c.above-level.ensures.level;
      within = rw e (parent-there len h j i.within);
      order = rw e (omega arith);
      rests = rw e (climb_on bits h low j c.args.need c.loop-level.left c.in-Passed.more i.order up i.rests c.in-Passed.ensures.sibling);
      grows = omega arith;
      steps = omega arith;
      height = omega arith;
    }
