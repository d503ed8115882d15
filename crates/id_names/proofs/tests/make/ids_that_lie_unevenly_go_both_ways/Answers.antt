use Rattle.std.proofs.Common.{ap, sym, subst, ◌∙◌, length, arith, ◌+◌, ◌≤◌}
use Rattle.bit_words.specs.Digits.{digits}
use Rattle.id_names.specs.Names.{AreDistinctIds}
use Rattle.id_names.specs.RisingNames.{bound_of}
use Rattle.id_names.proofs.InRuns.{length-ids, distinct_ids, narrow}
use Rattle.id_names.proofs.tests.make.ids_that_lie_unevenly_go_both_ways.Goals as goal

pub goes_both_ways-requires-clause-few : goal.goes_both_ways-requires-clause-few
goes_both_ways-requires-clause-few g c = omega (arith, ap length (c.deref.ensures.value ∙ c.in_ok-ids.ensures), length-ids)

pub goes_both_ways-requires-clause-names : goal.goes_both_ways-requires-clause-names
goes_both_ways-requires-clause-names g c = subst (λ ids. AreDistinctIds (bound_of (length ids) 30) ids) (sym (c.deref.ensures.value ∙ c.in_ok-ids.ensures)) distinct_ids

pub goes_both_ways-requires-clause-narrow : goal.goes_both_ways-requires-clause-narrow
goes_both_ways-requires-clause-narrow g c = subst (λ ids. digits (length ids) + 30 ≤ 63) (sym (c.deref.ensures.value ∙ c.in_ok-ids.ensures)) narrow
