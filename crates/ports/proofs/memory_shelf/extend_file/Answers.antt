use Rattle.std.proofs.Common.{arith}
use Rattle.std.proofs.lemmas.Map.Text.{text_keys}
use Rattle.ports.proofs.memory_shelf.extend_file.Goals as goal

pub returns-clause-others : goal.returns-clause-others
returns-clause-others c = λ other apart. grind (arith, text_keys)
