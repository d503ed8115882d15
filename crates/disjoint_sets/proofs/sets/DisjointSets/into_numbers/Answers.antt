use Rattle.std.proofs.Common.{subst}
use Rattle.disjoint_sets.specs.Sets.{AreSets}
use Rattle.disjoint_sets.proofs.Leading.{are_sets}
use Rattle.disjoint_sets.proofs.sets.DisjointSets.into_numbers.Goals as goal

pub returns-clause-sets : goal.returns-clause-sets
returns-clause-sets c = subst AreSets c.self.view_is (are_sets c.self.inside.links.items c.self.invariant.0)
