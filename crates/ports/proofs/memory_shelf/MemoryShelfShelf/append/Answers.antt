use Rattle.std.proofs.Common.{length, rules, ◌/◌}
use Rattle.ports.specs.MemoryShelf.{shelf_files}
use Rattle.ports.proofs.Results.{counts_failure_after, extends_front}
use Rattle.ports.proofs.memory_shelf.MemoryShelfShelf.append.Goals as goal

pub returns-then-next_fails-clause-prefix : goal.returns-then-next_fails-clause-prefix
returns-then-next_fails-clause-prefix c =
    rw c.failed_write.ensures.counted (extends_front c.extend.result c.args.name.now c.args.bytes.now (length c.args.bytes.now / 2)
    (shelf_files c.args.self.now) (shelf_files c.extend.new.self) c.requires c.extend.ensures.extended c.extend.ensures.kept)

pub returns-then-next_fails-clause-counted : goal.returns-then-next_fails-clause-counted
returns-then-next_fails-clause-counted c = counts_failure_after _ c.extend.result _ _ _ c.extend.ensures.counted (search rules) c.failed_write.ensures.never_falls
