use Rattle.std.proofs.Common.{arith}
use Rattle.id_names.specs.RisingNames.{id_at, ids_by_number}
use Rattle.std.specs.Prelude.{slice_index}
use Rattle.id_names.proofs.NameLaws.{rises, risen, right_names, length-ids, get_or-ids}
use Rattle.id_names.proofs.NumberLaws.{number_of-at}
use Rattle.id_names.proofs.laws.ids_without_fault.Goals as goal

pub returns-clause-rising : goal.returns-clause-rising
returns-clause-rising c = rises

pub returns-clause-in_range : goal.returns-clause-in_range
returns-clause-in_range c = λ p high_counts mark_counts right j h. let n = risen p high_counts mark_counts right j h in (n.least, n.within)

pub returns-clause-ids : goal.returns-clause-ids
returns-clause-ids c = λ p high_counts mark_counts right k h. get_or-ids p k h

pub returns-clause-right : goal.returns-clause-right
returns-clause-right c = right_names

pub returns-clause-found : goal.returns-clause-found
returns-clause-found c = λ p high_counts mark_counts right k h.
    number_of-at (ids_by_number p) k (id_at p (slice_index p.places k)) (right_names p high_counts mark_counts right).distinct (omega (arith, h, length-ids p)) (get_or-ids p k h)
