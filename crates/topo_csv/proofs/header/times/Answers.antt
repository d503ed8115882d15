use Rattle.std.proofs.Common.{arith, refl, sym, ap, ◌∙◌}
use Rattle.topo_csv.proofs.Fields.{here, count_here, count_behind, count_end, few_fields}
use Rattle.topo_csv.proofs.header.times.Goals as goal

pub loop-field-init : goal.loop-field-init
loop-field-init c =
    let start = c.into_iter-field-iterator.ensures.into_iter_gives in
    record {
      row = start.0;
      counted = rw start.1 (omega arith);
      fits = few_fields _ c.args.names.now start.2;
    }

pub overflow_add-times : goal.overflow_add-times
overflow_add-times c =
    let inv = c.loop-field.invariant in
    let more = count_here _ _ _ _ _ _ (here _ _ _ _ _ inv.row refl c.in-Some.ensures.steps.1) inv.counted (sym c.eq.ensures ∙ c.if-eq.true) in
    omega (arith, inv.fits)

pub loop-field-preserved-then-eq : goal.loop-field-preserved-then-eq
loop-field-preserved-then-eq c =
    let inv = c.loop-field.invariant in
    let step = c.in-Some.ensures.steps in
    record {
      row = ap (λ r. r.now) step.0 ∙ inv.row;
      counted = rw step.2 (count_here _ _ _ _ _ _ (here _ _ _ _ _ inv.row refl step.1) inv.counted (sym c.eq.ensures ∙ c.if-eq.true));
      fits = inv.fits;
    }

pub loop-field-preserved : goal.loop-field-preserved
loop-field-preserved c =
    let inv = c.loop-field.invariant in
    let step = c.in-Some.ensures.steps in
    record {
      row = ap (λ r. r.now) step.0 ∙ inv.row;
      counted = rw step.2 (count_behind _ _ _ _ _ _ (here _ _ _ _ _ inv.row refl step.1) inv.counted (sym c.eq.ensures ∙ c.if-eq.false));
      fits = inv.fits;
    }

pub returns : goal.returns
returns c =
    let inv = c.loop-field.invariant in
    rw c.column_name-name.ensures at (count_end _ _ _ _ _ (here _ _ _ _ _ inv.row refl c.in-None.ensures.steps.1) inv.counted)
