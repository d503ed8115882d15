use Rattle.topo_csv.proofs.Records.{gives_first, gives_none, reads_on}
use Rattle.topo_csv.proofs.record.next_record.Goals as goal

pub returns-then-not-found-clause-gives : goal.returns-then-not-found-clause-gives
returns-then-not-found-clause-gives c =
    let none = gives_none _ c.read_byte_record.new.self _ c.requires (rw c.if-not-found.true at (c.in-Ok.ensures.reads c.requires.plain c.requires.ready)) in
    rw c.if-not-found.true (none, c.clear.ensures.fields)

pub returns-else-not-found-clause-reading : goal.returns-else-not-found-clause-reading
returns-else-not-found-clause-reading c found =
    reads_on _ c.read_byte_record.new.self _ c.requires (rw found at (c.in-Ok.ensures.reads c.requires.plain c.requires.ready)) (c.in-Ok.ensures.ready c.requires.plain) c.in-Ok.ensures.flexible

pub returns-else-not-found-clause-gives : goal.returns-else-not-found-clause-gives
returns-else-not-found-clause-gives c =
    rw c.if-not-found.false (gives_first _ c.read_byte_record.new.self _ c.requires (rw c.if-not-found.false at (c.in-Ok.ensures.reads c.requires.plain c.requires.ready)))
