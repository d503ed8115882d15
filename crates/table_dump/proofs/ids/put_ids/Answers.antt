use Rattle.std.proofs.Common.{◌<◌, List, ℕ, length, arith, ap, refl, ◌∙◌}
use Rattle.std.proofs.lemmas.List.{length-set}
use Rattle.scratch_region.specs.Numbers.{numbers_of}
use Rattle.id_names.specs.Views.{ids_of}
use Rattle.table_dump.proofs.Reading.{one_read, all_read}
use Rattle.table_dump.proofs.ids.put_ids.Goals as goal

pub loop-number-init : goal.loop-number-init
loop-number-init g c = record { size = refl; same = refl; read = omega arith; paid = omega arith }

pub loop-number-preserved : goal.loop-number-preserved
loop-number-preserved g c =
    let i = c.loop-number.invariant in
    let before = numbers_of c.loop-number.ids in
    let k = c.loop-number.number in
    let within : k < length before = omega (arith, c.loop-number-test.true, c.len-number-end.ensures, i.size) in
    let named : k < length (ids_of c.args.names) = omega (arith, c.loop-number-test.true, c.len-number-end.ensures, c.requires) in
    record {
      size = ap (λ (xs : List ℕ). length xs) c.set.ensures ∙ length-set before k c.id_of-id.result ∙ i.size;
      same = one_read before (numbers_of c.set.new.self) (ids_of c.args.names) k c.id_of-id.result within named c.id_of-id.ensures.id c.set.ensures i.same;
      read = omega (arith, i.read, c.id_of-id.ensures.some_steps);
      paid = omega (arith, i.paid, c.id_of-id.ensures.cost);
    }

pub returns-clause-ids : goal.returns-clause-ids
returns-clause-ids g c =
    let i = c.loop-number.invariant in
    let k = c.loop-number.number in
    all_read (numbers_of c.loop-number.ids) (ids_of c.args.names) k (length (numbers_of c.args.ids.now)) i.size (omega (arith, c.loop-number-test.false, c.len-number-end.ensures)) i.same
