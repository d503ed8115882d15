use Rattle.parens.proofs.tests.mixed_pairs_are_those_of_a_stack.Given as goal

abbrev pub ghosts-examined : goal.ghosts-examined
ghosts-examined g a = record { name = a.blank.name; parts = a.blank.parts }
