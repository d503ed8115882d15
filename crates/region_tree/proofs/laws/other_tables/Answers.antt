use Rattle.std.proofs.Common.{refl}
use Rattle.region_tree.specs.Parts.{region_ids, region_bits, member_places}
use Rattle.region_tree.proofs.Built.{fault-tables, forest-tables}
use Rattle.region_tree.proofs.laws.other_tables.Goals as goal

pub returns-clause-fault : goal.returns-clause-fault
returns-clause-fault c = fault-tables

pub returns-clause-forest : goal.returns-clause-forest
returns-clause-forest c = forest-tables

pub returns-clause-bits : goal.returns-clause-bits
unfolding region_bits
returns-clause-bits c = λ t. refl

pub returns-clause-ids : goal.returns-clause-ids
unfolding region_ids
returns-clause-ids c = λ t. refl

pub returns-clause-members : goal.returns-clause-members
unfolding member_places region_ids
returns-clause-members c = λ t. refl
