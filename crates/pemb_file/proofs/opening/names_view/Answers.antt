use Rattle.std.proofs.Common.{ap, ◌∙◌}
use Rattle.id_names.specs.RisingNames.{ids_by_number}
use Rattle.file_laws.specs.Held.{ids_at}
use Rattle.pemb_file.proofs.opening.names_view.Goals as goal

pub new-requires-clause-right : goal.new-requires-clause-right
new-requires-clause-right c = c.names.ensures.fault ∙ c.requires.right

pub returns : goal.returns
unfolding ids_at
returns c = ap ids_by_number (c.new.ensures ∙ c.names.ensures.names)
