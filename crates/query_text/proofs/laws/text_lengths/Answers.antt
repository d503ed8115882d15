use Rattle.query_text.proofs.Texts.{text_short, item_short}
use Rattle.query_text.proofs.laws.text_lengths.Goals as goal

pub returns-clause-query : goal.returns-clause-query
returns-clause-query c = text_short

pub returns-clause-item : goal.returns-clause-item
returns-clause-item c = item_short
