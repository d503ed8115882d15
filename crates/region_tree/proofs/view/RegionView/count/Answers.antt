use Rattle.std.proofs.Common.{arith}
use Rattle.id_names.specs.Views.{ids_of}
use Rattle.region_tree.proofs.RisingIds.{wider}
use Rattle.region_tree.proofs.view.RegionView.count.Goals as goal

pub returns-clause-names : goal.returns-clause-names
returns-clause-names c = wider _ _ (ids_of c.args.self.now.names) (omega (arith, c.count.ensures.narrow)) c.count.ensures.names
