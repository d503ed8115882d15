use Rattle.topo_cli.proofs.Loads.{file_ends}
use Rattle.topo_cli.proofs.load.load_file.Goals as goal

pub returns-clause-ends : goal.returns-clause-ends
returns-clause-ends g c = file_ends _ _ _ c.held_bytes.result c.in_ok-name.ensures.ok c.held_bytes.ensures.stopped c.held_bytes.ensures.named
