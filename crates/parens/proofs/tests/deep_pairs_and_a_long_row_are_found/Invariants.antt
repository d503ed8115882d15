use Rattle.parens.proofs.tests.deep_pairs_and_a_long_row_are_found.Given as goal

abbrev pub ghosts-sampled : goal.ghosts-sampled
ghosts-sampled g a = record { name = a.blank.name; parts = a.blank.parts }
