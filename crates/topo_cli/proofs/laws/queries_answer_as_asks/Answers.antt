use Rattle.topo_cli.proofs.RoundTrip.{same_text}
use Rattle.topo_cli.proofs.laws.queries_answer_as_asks.Goals as goal

pub returns : goal.returns
returns c = same_text
