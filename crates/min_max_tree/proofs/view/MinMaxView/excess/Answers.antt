use Rattle.std.proofs.Common.{arith, length, ◌+◌, ◌*◌, ◌/◌}
use Rattle.std.proofs.lemmas.Int.{ints}
use Rattle.bit_words.proofs.DigitLaws.{digits-mono}
use Rattle.min_max_tree.specs.MinMaxView.{searched}
use Rattle.min_max_tree.proofs.Rises.{excess-sum, small-excess}
use Rattle.min_max_tree.proofs.view.MinMaxView.excess.Goals as goal

pub overflow_mul-result : goal.overflow_mul-result
overflow_mul-result g c =
    let s = excess-sum (searched c.args.self.now) c.args.i (512 * (c.args.i / 512)) c.before_block-before.result c.ones_between-ones.result (omega arith) c.requires c.args.self.now.few c.before_block-before.ensures.value c.ones_between-ones.ensures.ones in
    omega (arith, s.0)

pub overflow_add-result : goal.overflow_add-result
overflow_add-result g c =
    let s = excess-sum (searched c.args.self.now) c.args.i (512 * (c.args.i / 512)) c.before_block-before.result c.ones_between-ones.result (omega arith) c.requires c.args.self.now.few c.before_block-before.ensures.value c.ones_between-ones.ensures.ones in
    omega (arith, s.0, s.1)

pub overflow_cast-result : goal.overflow_cast-result
overflow_cast-result g c =
    let s = excess-sum (searched c.args.self.now) c.args.i (512 * (c.args.i / 512)) c.before_block-before.result c.ones_between-ones.result (omega arith) c.requires c.args.self.now.few c.before_block-before.ensures.value c.ones_between-ones.ensures.ones in
    omega (arith, ints, s.0, s.1)

pub overflow_sub-result-2 : goal.overflow_sub-result-2
overflow_sub-result-2 g c =
    let s = excess-sum (searched c.args.self.now) c.args.i (512 * (c.args.i / 512)) c.before_block-before.result c.ones_between-ones.result (omega arith) c.requires c.args.self.now.few c.before_block-before.ensures.value c.ones_between-ones.ensures.ones in
    omega (arith, ints, s.0, s.1, s.2, small-excess (searched c.args.self.now) c.args.i c.requires)

pub returns-clause-value : goal.returns-clause-value
returns-clause-value g c =
    let s = excess-sum (searched c.args.self.now) c.args.i (512 * (c.args.i / 512)) c.before_block-before.result c.ones_between-ones.result (omega arith) c.requires c.args.self.now.few c.before_block-before.ensures.value c.ones_between-ones.ensures.ones in
    omega (arith, ints, s.0, s.1, s.2, small-excess (searched c.args.self.now) c.args.i c.requires)

pub returns-clause-cost : goal.returns-clause-cost
returns-clause-cost g c =
    let len = length (searched c.args.self.now) in
    let d = digits-mono (c.args.i / 512) (len + 2) (omega (arith, c.requires)) in
    let a = c.before_block-before.ensures.cost in
    let b = c.ones_between-ones.ensures.cost in
    omega arith
