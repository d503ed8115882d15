use Rattle.std.proofs.Common.{arith, length, ◌+◌, ◌/◌}
use Rattle.std.proofs.lemmas.Int.{ints}
use Rattle.bit_words.proofs.DigitLaws.{digits-mono}
use Rattle.min_max_tree.specs.MinMaxView.{searched}
use Rattle.min_max_tree.proofs.Rises.{small-excess}
use Rattle.min_max_tree.proofs.Runs.{run-bounds}
use Rattle.min_max_tree.proofs.view.MinMaxView.least_between.Goals as goal

pub overflow_cast-result : goal.overflow_cast-result
overflow_cast-result g c =
    let b = run-bounds (searched c.args.self.now) c.args.from c.args.to c.run-run.result c.run-run.ensures.run c.requires.order c.requires.within in
    omega (arith, ints, b.least_high)

pub overflow_sub-result : goal.overflow_sub-result
overflow_sub-result g c =
    let b = run-bounds (searched c.args.self.now) c.args.from c.args.to c.run-run.result c.run-run.ensures.run c.requires.order c.requires.within in
    omega (arith, ints, b.least_high)

pub overflow_add-result : goal.overflow_add-result
overflow_add-result g c =
    let bits = searched c.args.self.now in
    let b = run-bounds bits c.args.from c.args.to c.run-run.result c.run-run.ensures.run c.requires.order c.requires.within in
    let s = small-excess bits c.args.from (omega arith) in
    omega (arith, ints, b.least_high, s.0, s.1, c.excess-start.ensures.value, c.args.self.now.few)

pub returns-clause-least : goal.returns-clause-least
returns-clause-least g c =
    let bits = searched c.args.self.now in
    let b = run-bounds bits c.args.from c.args.to c.run-run.result c.run-run.ensures.run c.requires.order c.requires.within in
    let s = small-excess bits c.args.from (omega arith) in
    omega (arith, ints, b.least_high, s.0, s.1, c.excess-start.ensures.value, c.run-run.ensures.run.least, c.args.self.now.few)

pub returns-clause-cost : goal.returns-clause-cost
returns-clause-cost g c =
    let len = length (searched c.args.self.now) in
    let d = digits-mono (c.args.to / 512) (len + 2) (omega arith) in
    omega (arith, d, c.excess-start.ensures.cost, c.run-run.ensures.cost)
