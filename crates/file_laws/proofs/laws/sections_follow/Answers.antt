use Rattle.file_laws.proofs.Following.{numbers_are, section_first, section_next, section_last, section_within}
use Rattle.file_laws.proofs.laws.sections_follow.Goals as goal

pub returns-clause-numbers : goal.returns-clause-numbers
returns-clause-numbers c = numbers_are

pub returns-clause-first : goal.returns-clause-first
returns-clause-first c = section_first

pub returns-clause-next : goal.returns-clause-next
returns-clause-next c = section_next

pub returns-clause-last : goal.returns-clause-last
returns-clause-last c = section_last

pub returns-clause-within : goal.returns-clause-within
returns-clause-within c = section_within
