use Rattle.turan_code.proofs.tests.a_triangle_has_its_steps_and_numbers.Given as goal

abbrev pub ghosts-examined : goal.ghosts-examined
ghosts-examined g a = record { name = a.blank.name; parts = a.blank.parts }
