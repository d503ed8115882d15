use Rattle.std.proofs.Common.{arith}
use Rattle.id_names.specs.Views.{names_in}
use Rattle.id_names.proofs.NameLaws.{length-ids}
use Rattle.id_names.proofs.view.NamesView.low_at.Goals as goal

pub low-requires : goal.low-requires
low-requires g c = let v = c.args.self.now in omega (arith, c.requires, length-ids (names_in v), v.count)
