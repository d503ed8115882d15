use Rattle.std.proofs.Common.{◌∙◌}
use Rattle.euler_check.proofs.Counted.{as_many_components}
use Rattle.euler_check.proofs.FirstRings.{components_numbered}
use Rattle.euler_check.proofs.components.number_components.Goals as goal

pub returns-clause-numbers : goal.returns-clause-numbers
returns-clause-numbers c =
    components_numbered c.args.rotation.now c.args.rings.now c.in_ok-joined_rings.field-0 c.into_numbers-sets.result c.new.result c.requires c.in_ok-joined_rings.ensures.joined c.into_numbers-sets.ensures.numbered
    (c.new.ensures.count ∙ c.count.ensures) (c.new.ensures.of_darts ∙ c.in_ok-numbers.ensures)

pub returns-clause-count : goal.returns-clause-count
returns-clause-count c = as_many_components c.args.rotation.now c.in_ok-joined_rings.ensures.rotation c.new.result (returns-clause-numbers c)
