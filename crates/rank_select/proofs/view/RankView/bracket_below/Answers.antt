use Rattle.std.proofs.Common.{arith, length}
use Rattle.bit_words.proofs.Ranks.{rank-zero}
use Rattle.rank_select.specs.Counts.{blocks}
use Rattle.rank_select.specs.RankView.{counted}
use Rattle.rank_select.proofs.CountLaws.{stride_cost, digits-double, some_in}
use Rattle.rank_select.proofs.view.RankView.bracket_below.Goals as goal

pub returns-then-before-j-clause-cost : goal.returns-then-before-j-clause-cost
returns-then-before-j-clause-cost g c =
    let cost = stride_cost c.args.steps.now c.loop-stride.steps c.args.start.stride c.loop-stride.stride (blocks (length (counted c.args.self.now))) c.requires.stride c.loop-stride.invariant.doubled (omega arith) in
    omega arith

pub loop-stride-preserved : goal.loop-stride-preserved
loop-stride-preserved g c =
    let cost = stride_cost c.args.steps.now c.loop-stride.steps c.args.start.stride c.loop-stride.stride (blocks (length (counted c.args.self.now))) c.requires.stride c.loop-stride.invariant.doubled (omega arith) in
    let more = digits-double c.loop-stride.stride c.loop-stride.invariant.some in
    record {
      within = omega arith;
      above = omega arith;
      some = omega arith;
      grows = omega arith;
      doubled = omega arith;
      steps = omega arith;
    }

pub returns-clause-bracket : goal.returns-clause-bracket
returns-clause-bracket g c =
    record {
      order = omega (arith, some_in c.args.kind (counted c.args.self.now) c.args.j c.loop-stride.high c.loop-stride.invariant.above);
      within = c.loop-stride.invariant.within;
      below = omega (arith, rank-zero c.args.kind (counted c.args.self.now));
      above = c.loop-stride.invariant.above;
    }
