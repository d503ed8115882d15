use Rattle.std.proofs.Common.{refl}
use Rattle.id_names.specs.RisingNames.{count, id_bound, id_at, number_at}
use Rattle.id_names.specs.Faults.{is_rising, is_ordered}
use Rattle.id_names.specs.declared.fault.NameFault.TheVariants.{HighCounts, Ones, Rising, MarkCounts, MarkOnes, Order}
use Rattle.id_names.proofs.FaultLaws.{some_failing}
use Rattle.id_names.proofs.FaultOrder.{fault_is, other_says, wrong_says}
use Rattle.std.specs.Prelude.{length}
use Rattle.id_names.proofs.laws.first_name_fault.Goals as goal

pub returns-clause-high_counts : goal.returns-clause-high_counts
returns-clause-high_counts c = λ p high_counts mark_counts at h. (fault_is p high_counts mark_counts (HighCounts at) h).is_high_counts at refl

pub returns-clause-ones : goal.returns-clause-ones
returns-clause-ones c = λ p high_counts mark_counts found h. other_says p.high (count p) found ((fault_is p high_counts mark_counts (Ones found) h).is_ones found refl)

pub returns-clause-rising : goal.returns-clause-rising
returns-clause-rising c = λ p high_counts mark_counts at h.
    let first = some_failing (is_rising (id_bound p) (id_at p)) (count p) at ((fault_is p high_counts mark_counts (Rising at) h).is_rising at refl) in
    (first.within, first.fails, first.before)

pub returns-clause-mark_counts : goal.returns-clause-mark_counts
returns-clause-mark_counts c = λ p high_counts mark_counts at h. (fault_is p high_counts mark_counts (MarkCounts at) h).is_mark_counts at refl

pub returns-clause-mark_ones : goal.returns-clause-mark_ones
returns-clause-mark_ones c = λ p high_counts mark_counts found h. other_says p.marks (length p.back) found ((fault_is p high_counts mark_counts (MarkOnes found) h).is_mark_ones found refl)

pub returns-clause-order : goal.returns-clause-order
returns-clause-order c = λ p high_counts mark_counts at h.
    let first = some_failing (is_ordered p.places (number_at p)) (count p) at ((fault_is p high_counts mark_counts (Order at) h).is_order at refl) in
    (first.within, first.fails, first.before)

pub returns-clause-wrong : goal.returns-clause-wrong
returns-clause-wrong c = wrong_says
