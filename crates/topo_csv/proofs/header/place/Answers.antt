use Rattle.std.proofs.Common.{arith, bytes_eq, sym, ap, ◌∙◌, ◌≡◌}
use Rattle.std.proofs.lemmas.Iterator.Adapters.{position_from-zero}
use Rattle.csv.specs.Records.{field_count, fields_of}
use Rattle.topo_csv.proofs.Fields.{here, within, found_at, found_behind, not_found}
use Rattle.topo_csv.proofs.header.place.Goals as goal

pub loop-i-init : goal.loop-i-init
loop-i-init c = record {
  fits = let same = ap field_count c.iter-field-items.ensures.row in omega (arith, c.iter-field-items.ensures.small);
  row = c.iter-field-items.ensures.row;
  at = c.iter-field-items.ensures.at;
  found = sym (position_from-zero (bytes_eq c.column_name-name.result.now) (fields_of c.args.names.now));
}

pub returns-then-eq : goal.returns-then-eq
returns-then-eq c =
    let inv = c.loop-i.invariant in
    let found = found_at _ _ _ _ _ (here _ _ _ _ _ inv.row inv.at c.in-Some.ensures.steps.1) inv.found (sym c.eq.ensures ∙ c.if-eq.true) in
    rw c.column_name-name.ensures at found

pub loop-i-preserved : goal.loop-i-preserved
loop-i-preserved c =
    let inv = c.loop-i.invariant in
    let step = c.in-Some.ensures.steps in
    let next : c.next.new.self.row.now ≡ c.loop-i.field-iterator.row.now = ap (λ r. r.now) step.0 in
    record {
      fits = let same = ap field_count next in let less = within _ _ _ (sym step.1) in omega arith;
      row = next ∙ inv.row;
      at = omega arith;
      found = found_behind _ _ _ _ _ (here _ _ _ _ _ inv.row inv.at step.1) inv.found (sym c.eq.ensures ∙ c.if-eq.false);
    }

pub returns : goal.returns
returns c =
    let inv = c.loop-i.invariant in
    let none = not_found _ _ _ _ (here _ _ _ _ _ inv.row inv.at c.in-None.ensures.steps.1) inv.found in
    rw c.column_name-name.ensures at none
