use Rattle.turan_code.proofs.tests.a_long_code_is_that_of_reading_it_with_stacks.Given as goal

abbrev pub ghosts-compared : goal.ghosts-compared
ghosts-compared g a = record { name = a.blank.name; parts = a.blank.parts }
