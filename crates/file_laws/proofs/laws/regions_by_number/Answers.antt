use Rattle.file_laws.proofs.RegionNumbers.{numbered_of, member_of}
use Rattle.file_laws.proofs.laws.regions_by_number.Goals as goal

pub returns-clause-numbered : goal.returns-clause-numbered
returns-clause-numbered c = numbered_of

pub returns-clause-members : goal.returns-clause-members
returns-clause-members c = member_of
