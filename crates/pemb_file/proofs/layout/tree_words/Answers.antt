use Rattle.pemb_file.proofs.TreeWords.{climb-begin, climb-next, climb-end}
use Rattle.pemb_file.proofs.layout.tree_words.Goals as goal

pub loop-nodes-init : goal.loop-nodes-init
loop-nodes-init c = record { climbs = climb-begin c.args.bits }

pub loop-nodes-preserved : goal.loop-nodes-preserved
loop-nodes-preserved c = record { climbs = climb-next c.args.bits c.loop-nodes.nodes c.loop-nodes.words c.loop-nodes-test.true c.loop-nodes.invariant.climbs }

pub returns-clause-words : goal.returns-clause-words
returns-clause-words c = climb-end c.args.bits c.loop-nodes.nodes c.loop-nodes.words c.loop-nodes-test.false c.loop-nodes.invariant.climbs
