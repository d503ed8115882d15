use Rattle.std.proofs.Common.{arith, sym, ◌∙◌, below_more}
use Rattle.pemb_file.specs.PlacedView.{contents_of_placed}
use Rattle.pemb_file.proofs.PlaceSteps.{wrong-order, right-order, ordered-below}
use Rattle.pemb_file.proofs.places.Placed.wrong_order.Goals as goal

pub returns-then-not-is_ordered-clause-order : goal.returns-then-not-is_ordered-clause-order
returns-then-not-is_ordered-clause-order g c =
    sym (wrong-order (contents_of_placed c.args.self.now) c.loop-j.j (omega (arith, c.count-j-end.ensures, c.args.self.now.fits.order)) c.loop-j.invariant.pass (sym c.is_ordered.ensures.ordered ∙ c.if-not-is_ordered.true))

pub returns-clause-order : goal.returns-clause-order
returns-clause-order g c =
    sym (right-order (contents_of_placed c.args.self.now) (λ k l. c.loop-j.invariant.pass k (omega (arith, c.count-j-end.ensures, c.args.self.now.fits.order))))

pub loop-j-preserved : goal.loop-j-preserved
loop-j-preserved g c =
    record {
      pass = below_more _ _ c.loop-j.invariant.pass (sym c.is_ordered.ensures.ordered ∙ c.if-not-is_ordered.false);
      grows = omega arith;
      cost = omega arith;
    }

pub is_ordered-requires-clause-before : goal.is_ordered-requires-clause-before
is_ordered-requires-clause-before g c k l = ordered-below (contents_of_placed c.args.self.now) k (c.loop-j.invariant.pass k l)
