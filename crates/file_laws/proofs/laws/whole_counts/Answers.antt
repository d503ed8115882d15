use Rattle.file_laws.proofs.FiveCounts.{counts_of_map}
use Rattle.file_laws.proofs.laws.whole_counts.Goals as goal

pub returns : goal.returns
returns c = λ contents h. counts_of_map contents h
