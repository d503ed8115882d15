use Rattle.id_names.proofs.ComesBack.{comes_back}
use Rattle.id_names.proofs.made.walks_in_cycles.Goals as goal

pub returns : goal.returns
returns c = comes_back
