use Rattle.topo_base.proofs.Spelled.{id_text, id_reads}
use Rattle.topo_base.proofs.laws.id_spelling.Goals as goal

pub returns-clause-text : goal.returns-clause-text
returns-clause-text c = id_text

pub returns-clause-reads : goal.returns-clause-reads
returns-clause-reads c = id_reads
