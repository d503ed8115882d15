use Rattle.std.proofs.Common.{ap, sym, subst, ◌∙◌, length, arith, ◌+◌, ◌≤◌}
use Rattle.bit_words.specs.Digits.{digits}
use Rattle.id_names.specs.Names.{AreDistinctIds}
use Rattle.id_names.specs.RisingNames.{bound_of}
use Rattle.id_names.proofs.InCycles.{length-ids_of, distinct_ids, narrow}
use Rattle.id_names.proofs.tests.make.words_of_cycles.Goals as goal

pub make-requires-clause-few : goal.make-requires-clause-few
make-requires-clause-few c = omega (arith, ap length (c.deref.ensures.value ∙ c.in_ok-ids.ensures), length-ids_of c.args.cycles c.args.len c.requires.some c.requires.few, c.requires.few)

pub make-requires-clause-names : goal.make-requires-clause-names
make-requires-clause-names c = subst (λ ids. AreDistinctIds (bound_of (length ids) 14) ids) (sym (c.deref.ensures.value ∙ c.in_ok-ids.ensures)) (distinct_ids c.args.cycles c.args.len c.requires.some c.requires.few)

pub make-requires-clause-narrow : goal.make-requires-clause-narrow
make-requires-clause-narrow c = subst (λ ids. digits (length ids) + 14 ≤ 63) (sym (c.deref.ensures.value ∙ c.in_ok-ids.ensures)) (narrow c.args.cycles c.args.len c.requires.some c.requires.few)
