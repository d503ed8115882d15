use Rattle.std.proofs.Common.{rules}
use Rattle.ports.proofs.Results.{counts_failure}
use Rattle.ports.proofs.memory_shelf.MemoryShelf.extend.Goals as goal

pub returns-in-Err-clause-counted : goal.returns-in-Err-clause-counted
returns-in-Err-clause-counted c = counts_failure _ _ _ (search rules) c.failed_write.ensures.never_falls
