use Rattle.turan_code.proofs.tests.components_are_walked_each_by_itself.Given as goal

abbrev pub ghosts-examined : goal.ghosts-examined
ghosts-examined g a = record { name = a.blank.name; parts = a.blank.parts }
