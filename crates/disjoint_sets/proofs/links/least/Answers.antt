use Rattle.disjoint_sets.proofs.Leading.{led_last, led_next}
use Rattle.disjoint_sets.proofs.links.least.Goals as goal

pub loop-links-preserved : goal.loop-links-preserved
loop-links-preserved c = led_next c.args.links.now c.loop-links.links c.args.member c.loop-links.place c.loop-links.invariant

pub returns-clause-least : goal.returns-clause-least
returns-clause-least c = led_last c.args.links.now c.loop-links.links c.args.member c.loop-links.place c.loop-links.invariant c.loop-links-test.false
