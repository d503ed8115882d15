use Rattle.std.proofs.Common.{arith}
use Rattle.scratch_region.specs.Numbers.{numbers_of}
use Rattle.table_dump.proofs.Ranked.{none_put, one_put, all_put}
use Rattle.table_dump.proofs.by_rank.put_by_rank.Goals as goal

pub loop-number-init : goal.loop-number-init
loop-number-init g c =
    record {
      put = none_put c.args.names (numbers_of c.args.numbers.now) c.requires;
      read = omega arith;
      paid = omega arith;
    }

pub loop-number-preserved : goal.loop-number-preserved
loop-number-preserved g c =
    let i = c.loop-number.invariant in
    record {
      put = one_put c.args.names (numbers_of c.loop-number.numbers) (numbers_of c.set.new.self) c.loop-number.number c.rank_of-place.result (omega (arith, c.loop-number-test.true, c.count-number-end.ensures.count)) c.rank_of-place.ensures.place c.set.ensures i.put;
      read = omega (arith, i.read, c.rank_of-place.ensures.some_steps);
      paid = omega (arith, i.paid, c.rank_of-place.ensures.cost);
    }

pub returns-clause-numbers : goal.returns-clause-numbers
returns-clause-numbers g c = all_put c.args.names (numbers_of c.loop-number.numbers) c.loop-number.number (omega (arith, c.loop-number-test.false, c.count-number-end.ensures.count)) c.loop-number.invariant.put
