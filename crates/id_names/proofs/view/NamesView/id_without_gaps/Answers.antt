use Rattle.std.proofs.Common.{sym, arith}
use Rattle.id_names.specs.Views.{names_in}
use Rattle.id_names.proofs.NameLaws.{length-ids}
use Rattle.id_names.proofs.view.NamesView.id_without_gaps.Goals as goal

pub returns : goal.returns
returns c = record { id = sym (c.requires.gapless c.args.place (omega (arith, c.requires.within, length-ids (names_in c.args.self.now)))) }
