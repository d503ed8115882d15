use Rattle.file_parts.proofs.WalkBack.{firsts_many, walk_back}
use Rattle.file_parts.proofs.laws.walk_of_a_code.Goals as goal

pub returns-clause-walk : goal.returns-clause-walk
returns-clause-walk c code sound = firsts_many code

pub returns-clause-code : goal.returns-clause-code
returns-clause-code c code sound = walk_back code sound
