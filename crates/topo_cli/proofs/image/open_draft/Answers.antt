use Rattle.pemb_file.specs.Draft.{file_of_draft}
use Rattle.topo_cli.proofs.Opened.{map_is}
use Rattle.topo_cli.proofs.image.open_draft.Goals as goal

pub returns-clause-map : goal.returns-clause-map
returns-clause-map g c = map_is (file_of_draft c.args.draft.now) _ c.open.ensures.contents
