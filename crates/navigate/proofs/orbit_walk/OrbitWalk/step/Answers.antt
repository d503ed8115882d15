use Rattle.std.proofs.Common.{arith}
use Rattle.navigate.proofs.Resting.{rest-none, rest-some, allowance-none, paid-some}
use Rattle.navigate.proofs.orbit_walk.OrbitWalk.step.Goals as goal

pub returns-in-Some-clause-gives : goal.returns-in-Some-clause-gives
returns-in-Some-clause-gives g c = rest-some c.args.self.now c.stop.new.self c.in-Some.found.0 c.in-Some.found.1 c.in-Some.ensures.contents c.in-Some.ensures.next c.in-Some.ensures.edge

pub returns-in-Some-clause-paid : goal.returns-in-Some-clause-paid
returns-in-Some-clause-paid g c =
    let next = rest-some c.args.self.now c.stop.new.self c.in-Some.found.0 c.in-Some.found.1 c.in-Some.ensures.contents c.in-Some.ensures.next c.in-Some.ensures.edge in
    paid-some c.args.self.now c.stop.new.self c.in-Some.found.1 c.args.steps.now c.stop.new.steps c.in-Some.ensures.contents next c.in-Some.ensures.cost.1

pub returns-in-None-clause-gives : goal.returns-in-None-clause-gives
returns-in-None-clause-gives g c = (rest-none c.args.self.now c.in-None.ensures.next, rest-none c.stop.new.self c.in-None.ensures.within)

pub returns-in-None-clause-paid : goal.returns-in-None-clause-paid
returns-in-None-clause-paid g c =
    let old = allowance-none c.args.self.now (rest-none c.args.self.now c.in-None.ensures.next) in
    let new = allowance-none c.stop.new.self (rest-none c.stop.new.self c.in-None.ensures.within) in
    omega (arith, old, new, c.in-None.ensures.cost)
