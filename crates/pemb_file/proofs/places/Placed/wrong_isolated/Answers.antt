use Rattle.std.proofs.Common.{arith, sym, ◌∙◌, below_more}
use Rattle.pemb_file.specs.PlacedView.{contents_of_placed}
use Rattle.pemb_file.proofs.PlaceSteps.{wrong-isolated, right-isolated}
use Rattle.pemb_file.proofs.places.Placed.wrong_isolated.Goals as goal

pub returns-then-not-is_isolated-clause-isolated : goal.returns-then-not-is_isolated-clause-isolated
returns-then-not-is_isolated-clause-isolated g c =
    sym (wrong-isolated (contents_of_placed c.args.self.now) c.loop-j.j (omega (arith, c.count-j-end.ensures)) c.loop-j.invariant.pass (sym c.is_isolated.ensures.isolated ∙ c.if-not-is_isolated.true))

pub returns-clause-isolated : goal.returns-clause-isolated
returns-clause-isolated g c =
    sym (right-isolated (contents_of_placed c.args.self.now) (λ k l. c.loop-j.invariant.pass k (omega (arith, c.count-j-end.ensures))))

pub loop-j-preserved : goal.loop-j-preserved
loop-j-preserved g c =
    record {
      pass = below_more _ _ c.loop-j.invariant.pass (sym c.is_isolated.ensures.isolated ∙ c.if-not-is_isolated.false);
      grows = omega arith;
      cost = omega arith;
    }
