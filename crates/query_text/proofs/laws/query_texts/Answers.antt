use Rattle.query_text.proofs.Texts.{reads, said_text, said_in_range}
use Rattle.query_text.proofs.laws.query_texts.Goals as goal

pub returns-clause-reads : goal.returns-clause-reads
returns-clause-reads c = reads

pub returns-clause-text : goal.returns-clause-text
returns-clause-text c = said_text

pub returns-clause-in_range : goal.returns-clause-in_range
returns-clause-in_range c = said_in_range
