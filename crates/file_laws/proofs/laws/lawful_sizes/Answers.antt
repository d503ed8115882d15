use Rattle.file_laws.proofs.Lengths.{lawful_length}
use Rattle.file_laws.proofs.Small.{lawful_small}
use Rattle.file_laws.proofs.Largest.{lawful_few}
use Rattle.file_laws.proofs.laws.lawful_sizes.Goals as goal

pub returns-clause-length : goal.returns-clause-length
returns-clause-length c = lawful_length

pub returns-clause-small : goal.returns-clause-small
returns-clause-small c = lawful_small

pub returns-clause-few : goal.returns-clause-few
returns-clause-few c = lawful_few
