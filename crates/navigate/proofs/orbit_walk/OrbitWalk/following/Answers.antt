use Rattle.std.proofs.Common.{refl, arith, ◌<◌, length, sym, subst}
use Rattle.code_laws.specs.Code.{Code}
use Rattle.turan_code.specs.TuranView.{code_of_view}
use Rattle.pemb_file.specs.Served.{contents_of_view}
use Rattle.navigate.specs.OrbitWalk.{contents_in, edge_names, positions_left}
use Rattle.navigate.proofs.Facts.{digits_view}
use Rattle.navigate.proofs.KeptLaws.{next_kept}
use Rattle.navigate.proofs.orbit_walk.OrbitWalk.following.Goals as goal

pub invariant_of-self : goal.invariant_of-self
invariant_of-self g c = let w = c.args.self.now in record { within = w.within; ids = w.ids; right = c.pass.ensures.kept (edge_names w) (contents_in w) w.kind w.right }

pub after-requires : goal.after-requires
after-requires g c =
    let w = c.args.self.now in
    subst (λ (x : Code). c.in-Some.kept.over < length x.a) (sym c.code-code.ensures.code) (c.in-Some.ensures.stop (edge_names w) (contents_in w) w.kind w.right).over_within

pub returns-in-Some-clause-step : goal.returns-in-Some-clause-step
returns-in-Some-clause-step g c =
    let w = c.args.self.now in
    let is = c.in-Some.ensures.stop (edge_names w) (contents_in w) w.kind w.right in
    next_kept (edge_names w) (contents_in w) w.kind (code_of_view c.code-code.result.now) w.at c.after.result c.in-Some.kept c.code-code.ensures.code is c.in-Some.ensures.at c.after.ensures.after

pub returns-in-Some-clause-cost : goal.returns-in-Some-clause-cost
returns-in-Some-clause-cost g c =
    let w = c.args.self.now.served in
    let d = digits_view (contents_of_view w) w.whole (code_of_view c.code-code.result.now) c.code-code.ensures.code in
    omega (arith, d, c.after.ensures.cost)

pub returns-in-Some-clause-positions : goal.returns-in-Some-clause-positions
unfolding positions_left
returns-in-Some-clause-positions g c = refl

pub returns-in-None-clause-positions : goal.returns-in-None-clause-positions
unfolding positions_left
returns-in-None-clause-positions g c = refl

pub invariant_of-self-in-None : goal.invariant_of-self-in-None
invariant_of-self-in-None g c = let w = c.args.self.now in record { within = w.within; ids = w.ids; right = c.pass.ensures.kept (edge_names w) (contents_in w) w.kind w.right }

pub returns-in-None-clause-cost : goal.returns-in-None-clause-cost
returns-in-None-clause-cost g c =
    let w = c.args.self.now.served in
    let d = digits_view (contents_of_view w) w.whole (code_of_view c.code-code.result.now) c.code-code.ensures.code in
    omega (arith, d, c.step.ensures.cost)
