use Rattle.std.proofs.Common.{arith, sym, ◌∙◌, below_more}
use Rattle.pemb_file.specs.PlacedView.{contents_of_placed}
use Rattle.pemb_file.proofs.PlaceSteps.{wrong-place, right-places}
use Rattle.pemb_file.proofs.places.Placed.wrong_place.Goals as goal

pub returns-then-not-is_placed-clause-place : goal.returns-then-not-is_placed-clause-place
returns-then-not-is_placed-clause-place g c =
    sym (wrong-place (contents_of_placed c.args.self.now) c.loop-component.component (omega (arith, c.count-component-end.ensures)) c.loop-component.invariant.pass (sym c.is_placed.ensures.placed ∙ c.if-not-is_placed.true))

pub returns-clause-place : goal.returns-clause-place
returns-clause-place g c =
    sym (right-places (contents_of_placed c.args.self.now) (λ k l. c.loop-component.invariant.pass k (omega (arith, c.count-component-end.ensures))))

pub loop-component-preserved : goal.loop-component-preserved
loop-component-preserved g c =
    record {
      pass = below_more _ _ c.loop-component.invariant.pass (sym c.is_placed.ensures.placed ∙ c.if-not-is_placed.false);
      grows = omega arith;
      cost = omega arith;
    }
