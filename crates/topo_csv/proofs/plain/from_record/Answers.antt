use Rattle.std.proofs.Common.{sym, ◌∙◌}
use Rattle.topo_csv.proofs.Cutting.{next_line, plain_more}
use Rattle.topo_csv.proofs.plain.from_record.Goals as goal

pub loop-byte-preserved : goal.loop-byte-preserved
loop-byte-preserved c =
    let inv = c.loop-byte.invariant in
    let cut = c.in-Some.ensures.cases.0 in
    record {
      same = next_line c.args.bytes.now c.loop-byte.left.now _ _ cut (sym c.ends_line.ensures ∙ c.if-not-ends_line.false) inv.same;
      plain = λ p. plain_more c.loop-byte.left.now _ _ cut (inv.plain p);
    }
