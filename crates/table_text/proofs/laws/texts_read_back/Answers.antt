use Rattle.table_text.proofs.ReadBack.{reads_back, reads_only, texts_again}
use Rattle.table_text.proofs.laws.texts_read_back.Goals as goal

pub returns-clause-back : goal.returns-clause-back
returns-clause-back c = λ t range h. reads_back t range h

pub returns-clause-only : goal.returns-clause-only
returns-clause-only c = λ t back range h e. reads_only t back range h e

pub returns-clause-again : goal.returns-clause-again
returns-clause-again c = λ t back which range h e. texts_again t back which range h e
