use Rattle.std.proofs.Common.{arith, ap, ◌∙◌, refl}
use Rattle.csv.specs.Records.{fields_of}
use Rattle.topo_csv.proofs.Fields.{here, one_text, some_field, take_whole}
use Rattle.topo_csv.proofs.record.fields_in.Goals as goal

pub loop-text-smaller : goal.loop-text-smaller
loop-text-smaller c =
    let step = c.in-Some.ensures.steps in
    let lt = some_field (fields_of c.args.row.now) _ _ (here _ _ _ _ _ c.loop-text.invariant.row refl step.1) in
    rw step.2 (omega arith)

pub loop-text-preserved : goal.loop-text-preserved
loop-text-preserved c =
    let inv = c.loop-text.invariant in
    let step = c.in-Some.ensures.steps in
    record {
      row = ap (λ r. r.now) step.0 ∙ inv.row;
      done = rw (c.in_ok-push.ensures.items, step.2) (one_text _ _ (fields_of c.args.row.now) _ _ inv.done c.new.ensures (here _ _ _ _ _ inv.row refl step.1));
    }

pub returns : goal.returns
returns c =
    let inv = c.loop-text.invariant in
    inv.done ∙ take_whole _ _ (here _ _ _ _ _ inv.row refl c.in-None.ensures.steps.1)
