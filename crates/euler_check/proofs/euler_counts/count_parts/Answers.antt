use Rattle.std.proofs.Common.{◌+◌, sym, subst, arith}
use Rattle.euler_check.specs.Counts.{AreCounted}
use Rattle.euler_check.specs.Marks.{number_at}
use Rattle.euler_check.proofs.Counting.{counted_none, counted_skip, counted_further, counted_room}
use Rattle.euler_check.proofs.euler_counts.count_parts.Goals as goal
use Rattle.euler_check.proofs.euler_counts.count_parts.Goals.{in-Some, in_default}

pub loop-part-init : goal.loop-part-init
loop-part-init c = counted_none c.args.parts (number_at c.args.numbers.now) c.in_ok-counts.counts.items c.in_ok-counts.ensures

pub overflow_add-index_mut : goal.overflow_add-index_mut
overflow_add-index_mut c =
    let i = c.loop-part.part-index in
    let below = c.requires.below i c.in-Some.part c.loop-part-test.true c.in-Some.is in
    let room = counted_room c.args.parts (number_at c.args.numbers.now) i c.in-Some.part c.index_mut.result.now c.loop-part.counts.items below c.index_mut.ensures.value c.loop-part.invariant in
    omega (arith, room, c.requires.few, c.loop-part-test.true)

pub loop-part-preserved : goal.loop-part-preserved
loop-part-preserved c =
    let i = c.loop-part.part-index in
    let parts = number_at c.args.numbers.now in
    elim c.match-part.branch [
      | in-Some w ↦
          let below = c.requires.below i w.in-Some.part c.loop-part-test.true w.in-Some.is in
          subst (λ v. AreCounted c.args.parts parts (i + 1) v.items) (sym w.counts-is)
          (counted_further c.args.parts parts i w.in-Some.part w.index_mut.result.now c.loop-part.counts.items w.in-Some.is below w.index_mut.ensures.value c.loop-part.invariant)
      | in_default w ↦ subst (λ v. AreCounted c.args.parts parts (i + 1) v.items) (sym w.counts-is) (counted_skip c.args.parts parts i c.loop-part.counts.items w.in_default.is c.loop-part.invariant)
    ]
