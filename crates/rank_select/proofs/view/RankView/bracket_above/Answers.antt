use Rattle.std.proofs.Common.{arith, length}
use Rattle.rank_select.specs.Counts.{blocks}
use Rattle.rank_select.specs.RankView.{counted}
use Rattle.rank_select.proofs.CountLaws.{stride_cost, digits-double, rank_blocks}
use Rattle.rank_select.proofs.view.RankView.bracket_above.Goals as goal

pub returns-then-j-above-clause-cost : goal.returns-then-j-above-clause-cost
returns-then-j-above-clause-cost g c =
    let cost = stride_cost c.args.steps.now c.loop-stride.steps c.args.start.stride c.loop-stride.stride (blocks (length (counted c.args.self.now))) c.requires.stride c.loop-stride.invariant.doubled (omega arith) in
    omega arith

pub loop-stride-preserved : goal.loop-stride-preserved
loop-stride-preserved g c =
    let cost = stride_cost c.args.steps.now c.loop-stride.steps c.args.start.stride c.loop-stride.stride (blocks (length (counted c.args.self.now))) c.requires.stride c.loop-stride.invariant.doubled (omega arith) in
    let more = digits-double c.loop-stride.stride c.loop-stride.invariant.some in
    record {
      order = omega arith;
      before = c.kind_before-above.ensures.rank;
      below = omega arith;
      some = omega arith;
      grows = omega arith;
      doubled = omega arith;
      steps = omega arith;
    }

pub returns-clause-bracket : goal.returns-clause-bracket
returns-clause-bracket g c =
    record {
      order = omega arith;
      within = omega arith;
      below = omega (arith, c.loop-stride.invariant.before, c.loop-stride.invariant.below);
      above = omega (arith, rank_blocks c.args.kind (counted c.args.self.now) c.div_ceil-end.result (omega arith), c.requires.some);
    }
