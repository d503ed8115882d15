use Rattle.topo_base.proofs.Spelled.{signed_text, signed_reads}
use Rattle.topo_base.proofs.laws.signed_spelling.Goals as goal

pub returns-clause-text : goal.returns-clause-text
returns-clause-text c = signed_text

pub returns-clause-reads : goal.returns-clause-reads
returns-clause-reads c = signed_reads
