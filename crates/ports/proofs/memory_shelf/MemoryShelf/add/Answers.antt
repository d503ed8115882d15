use Rattle.std.proofs.Common.{ap, option_map, ◌∙◌}
use Rattle.std.specs.String.{string_bytes}
use Rattle.ports.proofs.Names.{others_stay}
use Rattle.ports.proofs.memory_shelf.MemoryShelf.add.Goals as goal

pub returns-in-Ok-insert-clause-others : goal.returns-in-Ok-insert-clause-others
returns-in-Ok-insert-clause-others c = λ other ne.
    ap (option_map (λ bytes. bytes.items)) (others_stay (string_bytes c.in-Ok.key) c.args.self.now.held c.insert.new.self _ c.in-Ok-insert.ensures.updates other (λ e. ne (e ∙ c.in-Ok.ensures.ok)))
