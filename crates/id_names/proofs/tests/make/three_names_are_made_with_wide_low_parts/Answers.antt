use Rattle.std.proofs.Common.{refl, [], ◌∷◌}
use Rattle.bit_words.specs.Digits.{digits}
use Rattle.id_names.specs.Names.{number_of, is_names}
use Rattle.id_names.proofs.InCycles.{narrow_from_test}
use Rattle.id_names.proofs.NumberLaws.{names_from_test}
use Rattle.id_names.proofs.tests.make.three_names_are_made_with_wide_low_parts.Goals as goal

pub make-requires-clause-names : goal.make-requires-clause-names
unfolding is_names number_of digits
make-requires-clause-names g c = names_from_test _ _ refl

pub make-requires-clause-narrow : goal.make-requires-clause-narrow
unfolding digits
make-requires-clause-narrow g c = narrow_from_test 61 (2 ∷ 1 ∷ 3 ∷ []) refl
