use Rattle.std.proofs.Common.{refl}
use Rattle.topo_csv.specs.Left.{left_in}
use Rattle.topo_csv.proofs.record.records.Goals as goal

pub returns-clause-left : goal.returns-clause-left
unfolding left_in
returns-clause-left c = let e = c.from_reader.ensures in rw (e.source, e.state) refl
