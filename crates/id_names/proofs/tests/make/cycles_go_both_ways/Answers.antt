use Rattle.std.proofs.Common.{ap, sym, subst, ◌∙◌, length, arith, ◌+◌, ◌≤◌}
use Rattle.bit_words.specs.Digits.{digits}
use Rattle.id_names.specs.Names.{AreDistinctIds}
use Rattle.id_names.specs.RisingNames.{bound_of}
use Rattle.id_names.proofs.InCycles.{length-ids_of, distinct_ids, narrow}
use Rattle.id_names.proofs.tests.make.cycles_go_both_ways.Goals as goal

pub goes_both_ways-requires-clause-few : goal.goes_both_ways-requires-clause-few
goes_both_ways-requires-clause-few c = omega (arith, ap length (c.deref.ensures.value ∙ c.in_ok-ids.ensures), length-ids_of c.args.cycles c.args.len c.requires.some c.requires.few, c.requires.few)

pub goes_both_ways-requires-clause-names : goal.goes_both_ways-requires-clause-names
goes_both_ways-requires-clause-names c = subst (λ ids. AreDistinctIds (bound_of (length ids) 14) ids) (sym (c.deref.ensures.value ∙ c.in_ok-ids.ensures)) (distinct_ids c.args.cycles c.args.len c.requires.some c.requires.few)

pub goes_both_ways-requires-clause-narrow : goal.goes_both_ways-requires-clause-narrow
goes_both_ways-requires-clause-narrow c = subst (λ ids. digits (length ids) + 14 ≤ 63) (sym (c.deref.ensures.value ∙ c.in_ok-ids.ensures)) (narrow c.args.cycles c.args.len c.requires.some c.requires.few)
