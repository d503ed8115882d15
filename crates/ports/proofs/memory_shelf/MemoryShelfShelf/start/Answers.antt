use Rattle.std.proofs.Common.{ap, rules, ◌∙◌}
use Rattle.ports.proofs.Results.{counts_failure}
use Rattle.ports.specs.MemoryShelf.{shelf_files}
use Rattle.ports.proofs.memory_shelf.MemoryShelfShelf.start.Goals as goal

pub returns-then-next_fails-clause-counted : goal.returns-then-next_fails-clause-counted
returns-then-next_fails-clause-counted c = counts_failure _ _ _ (search rules) c.failed_write.ensures.never_falls

pub returns-in-Err-clause-others : goal.returns-in-Err-clause-others
returns-in-Err-clause-others c = λ other apart. ap (λ shelf. shelf_files shelf other) c.failed_write-in-Err.ensures.counted ∙ ap (λ files. files other) c.in-Err.ensures.kept

pub returns-in-Err-clause-counted : goal.returns-in-Err-clause-counted
returns-in-Err-clause-counted c = counts_failure _ _ _ (search rules) (search rules)
