use Rattle.std.proofs.Common.{◌∙◌, sym, ap, subst, length, arith}
use Rattle.std.proofs.lemmas.Result.{IfOk-weaker}
use Rattle.plane_model.specs.Component.{ring_count}
use Rattle.euler_check.specs.Counts.{AreCounted, AreCountsOf}
use Rattle.euler_check.specs.Marks.{number_at}
use Rattle.euler_check.proofs.ComponentCounts.{rings_counted_in}
use Rattle.euler_check.proofs.euler_counts.count_rings.Goals as goal

pub count_parts-requires-clause-below : goal.count_parts-requires-clause-below
count_parts-requires-clause-below c = λ i x h has.
    let places = c.in_ok-numbers.ensures.places in
    let size = places.size in
    let l = ap length c.deref.ensures.value in
    let d = places.some i x (omega arith) (ap (λ xs. number_at xs i) (sym c.deref.ensures.value) ∙ has) in
    let below = c.requires.components.below d.0 d.1 in
    let is = d.3 in
    let count = c.count.ensures in
    omega arith

pub returns : goal.returns
returns c =
    IfOk-weaker c.count_parts.result (λ counts. AreCounted c.count.result (number_at c.deref.result.now) (length c.deref.result.now) counts.items) (λ counts. AreCountsOf c.args.rotation.now ring_count c.args.components.now counts.items)
    (λ counts all. rings_counted_in c.args.rotation.now c.in_ok-numbers.ensures.rotation c.args.components.now c.requires.components c.args.rings.now c.requires.rings c.in_ok-numbers.numbers.items counts.items c.in_ok-numbers.ensures.places
    (subst (λ n. AreCounted n (number_at c.in_ok-numbers.numbers.items) (length c.in_ok-numbers.numbers.items) counts.items) c.count.ensures
    (subst (λ xs. AreCounted c.count.result (number_at xs) (length xs) counts.items) c.deref.ensures.value all)))
    c.count_parts.ensures
