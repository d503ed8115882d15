use Rattle.topo_base.proofs.Spelled.{positive_text, positive_reads}
use Rattle.topo_base.proofs.laws.positive_spelling.Goals as goal

pub returns-clause-text : goal.returns-clause-text
returns-clause-text c = positive_text

pub returns-clause-reads : goal.returns-clause-reads
returns-clause-reads c = positive_reads
