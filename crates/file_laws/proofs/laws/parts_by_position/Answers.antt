use Rattle.file_laws.proofs.Positions.{rings_at, rounds_at, components_at, outer_at}
use Rattle.file_laws.proofs.laws.parts_by_position.Goals as goal

pub returns-clause-rings : goal.returns-clause-rings
returns-clause-rings c = rings_at

pub returns-clause-rounds : goal.returns-clause-rounds
returns-clause-rounds c = rounds_at

pub returns-clause-components : goal.returns-clause-components
returns-clause-components c = components_at

pub returns-clause-outer : goal.returns-clause-outer
returns-clause-outer c = outer_at
